-- Floats of bounded size: sums and products of them are no NaN. The bounds are rough, as each operation adds bits to them. Assumes nothing.
use mathlib.Core.Path.{◌≡◌, sym, ap, ◌∙◌, subst⁻¹}
use mathlib.Core.Bool.{Bool, true, false, not, ◌&&◌, cond, beq}
use Prim.Native.Nat.{ℕ, zero, suc, ◌+◌, ◌-◌, ◌*◌, ◌/◌, ◌%◌, ◌^◌, ◌≤◌, ◌<◌, compare}
use native.Mathlib.Nat.{add-mul, div-le_of_le-mul, two-pow-succ, lt_of_le_of_lt, le_trans, le_of_eq, add-le-add, div-mul-le_self, div-div-eq-div-mul, mul_comm, mul_assoc, mul_right_comm, mul-mul-mul_comm, mul-le-mul, mul-le-mul_right, le_of_mul-le-mul_right, suc-mul}
use native.Mathlib.Omega.{arith}
use lib.Dec.{T, ltb, eqb, eqb-suc-zero}
use lib.Pow.{pow_pos, pow-add, pow_mono, pow-lt}
use lib.Ieee.{Float, nan, inf, fin, binary64, up, down, size, nearest, odd, units, round, neg, sum, add, sub, mul, div, is_nan}
use lib.Ieee.Digits.{size-le}
use lib.Ieee.Exact.{HasValue, units_val}
use lib.Ieee.Fits.{nearest-le, round_is}
use lib.Ieee.Positive.{positive}

-- finite, and at most 2 ^ n either way
abbrev pub Within : ℕ → Float → Type 0
Within n nan = ⊥
Within n (inf s) = ⊥
Within n (fin s m e) = m * up e ≤ 2 ^ n * down e

pub within-value : (n : ℕ) (x : Float) (s : Bool) (a c : ℕ) → 0 < c → HasValue x s a c → a ≤ 2 ^ n * c → Within n x
within-value n nan s a c p h l = h
within-value n (inf t) s a c p h l = h
within-value n (fin t m e) s a c p h l =
    le_of_mul-le-mul_right (le_trans (le_of_eq h.1) (le_trans (mul-le-mul_right (down e) l) (le_of_eq (mul_right_comm (2 ^ n) c (down e))))) p

-- ---- rounding

-- what is kept of n / den, and one more in its last place
kept-le : (n den k q c : ℕ) → n / den ≤ c → 2 ^ k ≤ c → q ≤ suc (n / (den * 2 ^ k)) → q * 2 ^ k ≤ c + c
kept-le n den k q c h g l =
    le_trans (mul-le-mul_right (2 ^ k) l)
    (le_trans (le_of_eq (suc-mul (n / (den * 2 ^ k)) (2 ^ k)))
    (add-le-add (le_trans (le_of_eq (ap (λ (x : ℕ). x * 2 ^ k) (sym (div-div-eq-div-mul n den (2 ^ k))))) (le_trans (div-mul-le_self (n / den) (2 ^ k)) h)) g))

pub round-within : (s : Bool) (num den n : ℕ) → n ≤ 900 → num ≤ 2 ^ n * den → Within (n + 2) (round binary64 s num den)
round-within s num den n small h =
    let N = num * 2 ^ 1074 in
    let k = size (N / den) - 53 in
    let u = den * 2 ^ k in
    let q = nearest (N / u) (compare (N % u * 2) u) in
    let w : N / den ≤ 2 ^ (n + 1074) = div-le_of_le-mul den (le_trans (mul-le-mul_right (2 ^ 1074) h) (le_of_eq (whole n den))) in
    let z : size (N / den) ≤ n + 1075 = size-le (N / den) (n + 1075) (lt_of_le_of_lt w (pow-lt (omega arith))) in
    let g : q * 2 ^ k ≤ 2 ^ (n + 1075) + 2 ^ (n + 1075) =
    kept-le N den k q (2 ^ (n + 1075)) (le_trans w (pow_mono (omega arith))) (pow_mono (omega arith)) (nearest-le (N / u) (compare (N % u * 2) u)) in
    let e : 2 ^ (n + 1075) + 2 ^ (n + 1075) ≡ 2 ^ (n + 2) * 2 ^ 1074 = doubled n in
    let l : q * 2 ^ k ≤ 2 ^ (n + 2) * 2 ^ 1074 = le_trans g (le_of_eq e) in
    let v : HasValue (units binary64 s q k) s (q * 2 ^ k) (2 ^ 1074) = units_val binary64 s q k (lt_of_le_of_lt l (lt_of_le_of_lt (le_of_eq (sym (pow-add 2 (n + 2) 1074))) (pow-lt {j = 2098} (omega arith)))) in
    within-value (n + 2) (round binary64 s num den) s (q * 2 ^ k) (2 ^ 1074) (pow_pos 1074) (subst⁻¹ (λ (x : Float). HasValue x s (q * 2 ^ k) (2 ^ 1074)) (round_is binary64 s num den) v) l
  where
    whole : (n den : ℕ) → 2 ^ n * den * 2 ^ 1074 ≡ den * 2 ^ (n + 1074)
    whole n den = ap (λ (x : ℕ). x * 2 ^ 1074) (mul_comm (2 ^ n) den) ∙ mul_assoc den (2 ^ n) (2 ^ 1074) ∙ ap (λ (x : ℕ). den * x) (sym (pow-add 2 n 1074))

    doubled : (n : ℕ) → 2 ^ (n + 1075) + 2 ^ (n + 1075) ≡ 2 ^ (n + 2) * 2 ^ 1074
    doubled n =
        let i : suc (n + 1075) ≡ n + 2 + 1074 = omega arith in
        sym (two-pow-succ (n + 1075)) ∙ ap (λ (x : ℕ). 2 ^ x) i ∙ pow-add 2 (n + 2) 1074

-- ---- the operations

pub mul-within : (i j : ℕ) (x y : Float) → i + j ≤ 900 → Within i x → Within j y → Within (i + j + 2) (mul binary64 x y)
unfolding mul
mul-within i j nan y s h g = absurd h
mul-within i j (inf t) y s h g = absurd h
mul-within i j (fin t m e) nan s h g = absurd g
mul-within i j (fin t m e) (inf r) s h g = absurd g
mul-within i j (fin t m e) (fin r n d) s h g =
    round-within _ _ _ (i + j) s
    (le_trans (mul-le-mul h g) (le_of_eq (mul-mul-mul_comm (2 ^ i) (down e) (2 ^ j) (down d) ∙ ap (λ (x : ℕ). x * (down e * down d)) (sym (pow-add 2 i j)))))

-- whatever holds of each of its three roundings holds of a sum
sum_is : (P : Float → Type 0) (s t : Bool) (a b c : ℕ) → ((v : Bool) (n : ℕ) → n ≤ a + b → P (round binary64 v n c)) → P (sum binary64 s a t b c)
unfolding sum
sum_is P s t a b c h = go (beq s t) (ltb a b)
  where
    go : (v w : Bool) → P (cond v (round binary64 s (a + b) c) (cond w (round binary64 t (b - a) c) (round binary64 (s && ltb b a) (a - b) c)))
    go true w = h s (a + b) (omega arith)
    go false true = h t (b - a) (omega arith)
    go false false = h (s && ltb b a) (a - b) (omega arith)

sum-within : (s t : Bool) (a b c i : ℕ) → suc i ≤ 900 → a ≤ 2 ^ i * c → b ≤ 2 ^ i * c → Within (suc i + 2) (sum binary64 s a t b c)
sum-within s t a b c i small h g =
    let both : a + b ≤ 2 ^ suc i * c = le_trans (add-le-add h g) (le_of_eq (sym (add-mul (2 ^ i) (2 ^ i) c) ∙ ap (λ (x : ℕ). x * c) (sym (two-pow-succ i)))) in
    sum_is (Within (suc i + 2)) s t a b c (λ v n l. round-within v n c (suc i) small (le_trans l both))

pub add-within : (i : ℕ) (x y : Float) → suc i ≤ 900 → Within i x → Within i y → Within (suc i + 2) (add binary64 x y)
unfolding add
add-within i nan y s h g = absurd h
add-within i (inf t) y s h g = absurd h
add-within i (fin t m e) nan s h g = absurd g
add-within i (fin t m e) (inf r) s h g = absurd g
add-within i (fin t m e) (fin r n d) s h g = sum-within t r (m * up e * down d) (n * up d * down e) (down e * down d) i s
    (le_trans (mul-le-mul_right (down d) h) (le_of_eq (mul_assoc (2 ^ i) (down e) (down d))))
    (le_trans (mul-le-mul_right (down e) g) (le_of_eq (mul_assoc (2 ^ i) (down d) (down e) ∙ ap (λ (x : ℕ). 2 ^ i * x) (mul_comm (down d) (down e)))))

neg-within : (i : ℕ) (x : Float) → Within i x → Within i (neg x)
unfolding neg
neg-within i nan h = h
neg-within i (inf s) h = h
neg-within i (fin s m e) h = h

pub sub_within : (i : ℕ) (x y : Float) → suc i ≤ 900 → Within i x → Within i y → Within (suc i + 2) (sub binary64 x y)
unfolding sub
sub_within i x y s h g = add-within i x (neg y) s h (neg-within i y g)

pub wider : (i j : ℕ) (x : Float) → i ≤ j → Within i x → Within j x
wider i j nan l h = h
wider i j (inf s) l h = h
wider i j (fin s m e) l h = le_trans h (mul-le-mul_right (down e) (pow_mono l))

-- ---- a step of Newton's

abbrev Number : Float → Type 0
Number x = T (not (is_nan x))

units_number : (s : Bool) (q k : ℕ) → Number (units binary64 s q k)
unfolding units odd is_nan
units_number s q k = go (ltb (q * 2 ^ k) (2 ^ 2098)) q
  where
    go : (b : Bool) (q : ℕ) → Number (cond b (odd 54 s q k 1074) (inf s))
    go true zero = tt
    go true (suc q) = tt
    go false q = tt

round_number : (s : Bool) (num den : ℕ) → Number (round binary64 s num den)
round_number s num den = subst⁻¹ Number (round_is binary64 s num den) (units_number s _ _)

add-number : (i : ℕ) (x y : Float) → Within i x → Number y → Number (add binary64 x y)
unfolding add is_nan
add-number i nan y h g = absurd h
add-number i (inf s) y h g = absurd h
add-number i (fin s m e) nan h g = absurd g
add-number i (fin s m e) (inf t) h g = tt
add-number i (fin s m e) (fin t n d) h g = sum_is Number s t (m * up e * down d) (n * up d * down e) (down e * down d) (λ v k l. round_number v k (down e * down d))

-- a positive number over a number
div-number : (i : ℕ) (x y : Float) → T (positive x) → Within i y → Number (div binary64 x y)
unfolding div is_nan
div-number i nan y p h = absurd p
div-number i (inf s) y p h = absurd p
div-number i (fin true m e) y p h = absurd p
div-number i (fin false zero e) y p h = absurd p
div-number i (fin false (suc m) e) nan p h = absurd h
div-number i (fin false (suc m) e) (inf t) p h = absurd h
div-number i (fin false (suc m) e) (fin t n d) p h = go (eqb n 0) (eqb (suc m) 0) (eqb-suc-zero m)
  where
    go : (v w : Bool) → w ≡ false → Number (cond v (cond w nan (inf (not (beq false t)))) (round binary64 (not (beq false t)) (suc m * up e * down d) (n * up d * down e)))
    go true w z = subst⁻¹ (λ (w : Bool). Number (cond w nan (inf (not (beq false t))))) z tt
    go false w z = round_number (not (beq false t)) (suc m * up e * down d) (n * up d * down e)

pub newton-number : (i : ℕ) (v g : Float) → T (positive v) → Within i g → Number (add binary64 g (div binary64 v g))
newton-number i v g p h = add-number i g (div binary64 v g) h (div-number i v g p h)
