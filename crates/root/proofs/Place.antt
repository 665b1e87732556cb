-- From the root r of a whole number to the pattern of r * 2 ^ w units: the halfway points of the pattern are those of r. Assumes nothing.
use mathlib.Core.Path.{◌≡◌, refl, sym, ap, ap₂, ◌∙◌, subst, subst⁻¹}
use Prim.Native.Nat.{ℕ, zero, suc, ◌+◌, ◌-◌, ◌*◌, ◌/◌, ◌%◌, ◌^◌, ◌≤◌, ◌<◌}
use native.Mathlib.Nat.{le_trans, le_of_eq, le_of_lt, lt_of_lt_of_le, lt_of_le_of_lt, add-mul, mul-mul-mul_comm, mul-pos, mul-le-mul, mul-le-mul_left, mul-le-mul_right, mul-lt-mul_of_pos_right, pow-succ'}
use native.Mathlib.Decide.{dec_lt}
use native.Mathlib.Omega.{arith}
use lib.Pow.{pow_pos, pow-add}
use Rattle.root.specs.Root.{scaled, count, halfway, root_bits}
use Rattle.root.specs.Whole.{Over, Root}
use Rattle.root.proofs.Whole.{root-small, under-large}
use Rattle.root.proofs.Order.{count-at, count-lt, Low, Near, near-root}

scaled-lead : (w u : ℕ) → scaled (suc w) u ≡ (2 ^ 52 + u) * 2 ^ w
unfolding scaled
scaled-lead w u = refl

-- r with its leading digit, at the exponent w
pub count-is : (w r : ℕ) → 2 ^ 52 ≤ r → r ≤ 2 ^ 53 → count (w * 2 ^ 52 + r) ≡ r * 2 ^ w
count-is w r h g = elim (dec_lt r (2 ^ 53)) [
  | yes l ↦
      let e : w * 2 ^ 52 + r ≡ suc w * 2 ^ 52 + (r - 2 ^ 52) = omega arith in
      let d : 2 ^ 52 + (r - 2 ^ 52) ≡ r = omega arith in
      ap count e ∙ count-at (suc w) (r - 2 ^ 52) (omega arith) ∙ scaled-lead w (r - 2 ^ 52) ∙ ap (λ (x : ℕ). x * 2 ^ w) d
  | no l ↦
      let e : w * 2 ^ 52 + r ≡ suc (suc w) * 2 ^ 52 + 0 = omega arith in
      let d : r ≡ 2 ^ 53 = omega arith in
      ap count e
      ∙ count-at (suc (suc w)) 0 (pow_pos 52)
      ∙ scaled-lead (suc w) 0
      ∙ omega (arith, pow-succ' 2 w, ap (λ (x : ℕ). x * 2 ^ w) d)
]

-- ---- the halfway points

upper_is : (w r : ℕ) → 2 ^ 52 ≤ r → r < 2 ^ 53 → halfway (w * 2 ^ 52 + r + 1) ≡ (2 * r + 1) * 2 ^ w
unfolding halfway
upper_is w r h g =
    let e : w * 2 ^ 52 + r + 1 - 1 ≡ w * 2 ^ 52 + r = omega arith in
    let d : w * 2 ^ 52 + r + 1 ≡ w * 2 ^ 52 + (r + 1) = omega arith in
    ap₂ ◌+◌ (ap count e ∙ count-is w r h (omega arith)) (ap count d ∙ count-is w (r + 1) (omega arith) (omega arith)) ∙ omega arith

lower-is : (w r : ℕ) → 2 ^ 52 < r → r ≤ 2 ^ 53 → halfway (w * 2 ^ 52 + r) ≡ (2 * r - 1) * 2 ^ w
unfolding halfway
lower-is w r h g =
    let e : w * 2 ^ 52 + r - 1 ≡ w * 2 ^ 52 + (r - 1) = omega arith in
    let d : r - 1 + r ≡ 2 * r - 1 = omega arith in
    ap₂ ◌+◌ (ap count e ∙ count-is w (r - 1) (omega arith) (omega arith)) (count-is w r (omega arith) g)
    ∙ sym (add-mul (r - 1) r (2 ^ w))
    ∙ ap (λ (x : ℕ). x * 2 ^ w) d

-- where the distance changes, the lower point is at least below the pattern itself
lower-lt : (w : ℕ) → halfway (w * 2 ^ 52 + 2 ^ 52) < 2 ^ 53 * 2 ^ w
unfolding halfway
lower-lt w =
    let b = w * 2 ^ 52 + (2 ^ 52 - 1) in
    let e : w * 2 ^ 52 + 2 ^ 52 - 1 ≡ b = omega arith in
    let d : b + 1 ≡ w * 2 ^ 52 + 2 ^ 52 = omega arith in
    let c : count (w * 2 ^ 52 + 2 ^ 52) ≡ 2 ^ 52 * 2 ^ w = count-is w (2 ^ 52) (omega arith) (omega arith) in
    omega (arith, subst (λ (n : ℕ). count b < count n) d (count-lt b), ap count e)

-- ---- their squares

scale-lt : (a n v : ℕ) → 0 < v → a * a < n → a * v * (a * v) < n * (v * v)
scale-lt a n v p h = subst⁻¹ (λ (x : ℕ). x < n * (v * v)) (mul-mul-mul_comm a v a v) (mul-lt-mul_of_pos_right h (mul-pos p p))

scale-gt : (a n v : ℕ) → 0 < v → n < a * a → n * (v * v) < a * v * (a * v)
scale-gt a n v p h = subst⁻¹ (λ (x : ℕ). n * (v * v) < x) (mul-mul-mul_comm a v a v) (mul-lt-mul_of_pos_right h (mul-pos p p))

-- at the least r the exponent below has points twice as close, and the lower one is still low enough
least-low : (t w : ℕ) → 2 ^ 60 ≤ t → Low (t * 2 ^ 46 * (2 ^ w * 2 ^ w)) (w * 2 ^ 52 + 2 ^ 52)
least-low t w h =
    let v = 2 ^ w in
    let l = lower-lt w in
    let s : 2 ^ 106 * (v * v) ≤ t * 2 ^ 46 * (v * v) = mul-le-mul_right (v * v) (omega arith) in
    let q : halfway (w * 2 ^ 52 + 2 ^ 52) * halfway (w * 2 ^ 52 + 2 ^ 52) < 2 ^ 53 * v * (2 ^ 53 * v) = mul-self-lt l in
    lt_of_lt_of_le q (le_trans (le_of_eq (mul-mul-mul_comm (2 ^ 53) v (2 ^ 53) v)) s)
  where
    mul-self-lt : {a b : ℕ} → a < b → a * a < b * b
    mul-self-lt {a} {b} g = lt_of_le_of_lt (mul-le-mul_left a (le_of_lt g)) (mul-lt-mul_of_pos_right g (omega arith))

root-low : (t w r : ℕ) → 2 ^ 60 ≤ t → 2 ^ 52 ≤ r → r < 2 ^ 53 → Over t r → Low (t * 2 ^ 46 * (2 ^ w * 2 ^ w)) (w * 2 ^ 52 + r)
root-low t w r h g s o = elim (dec_lt (2 ^ 52) r) [
  | yes l ↦ subst⁻¹ (λ (x : ℕ). x * x < t * 2 ^ 46 * (2 ^ w * 2 ^ w)) (lower-is w r l (le_of_lt s)) (scale-lt (2 * r - 1) (t * 2 ^ 46) (2 ^ w) (pow_pos w) o)
  | no l ↦
      let e : 2 ^ 52 ≡ r = omega arith in
      subst (λ (x : ℕ). Low (t * 2 ^ 46 * (2 ^ w * 2 ^ w)) (w * 2 ^ 52 + x)) e (least-low t w h)
]

pub placed-near : (t w r : ℕ) → 2 ^ 60 ≤ t → t ≤ 2 ^ 62 - 2 ^ 9 → Root t r → Near (t * 2 ^ 46 * (2 ^ w * 2 ^ w)) (w * 2 ^ 52 + r)
placed-near t w r h g o =
    let l : 2 ^ 52 ≤ r = under-large t r h o.1 in
    let s : r < 2 ^ 53 = root-small t r g o.0 in (
      root-low t w r h l s o.0,
      subst⁻¹ (λ (x : ℕ). t * 2 ^ 46 * (2 ^ w * 2 ^ w) < x * x) (upper_is w r l s) (scale-gt (2 * r + 1) (t * 2 ^ 46) (2 ^ w) (pow_pos w) o.1),
    )

-- ---- a number m * 2 ^ k, at the exponent k / 2

-- the whole number whose root is taken, in units of 2 ^ 46
abbrev pub inside : ℕ → ℕ → ℕ
inside m k = m * 256 * (k % 2 + 1)

odd_power : (k : ℕ) → k % 2 + 1 ≡ 2 ^ (k % 2)
odd_power k = go (k % 2) (omega arith)
  where
    go : (n : ℕ) → n ≤ 1 → n + 1 ≡ 2 ^ n
    go zero h = refl
    go (suc zero) h = refl
    go (suc (suc n)) h = absurd (no n h)
      where
        no : (n : ℕ) → suc (suc n) ≤ 1 → ⊥
        no n h = omega arith

power-split : (k : ℕ) → 2 ^ (k + 54) ≡ (k % 2 + 1) * (2 ^ (k / 2) * 2 ^ (k / 2)) * 2 ^ 54
power-split k =
    let e : k + 54 ≡ k % 2 + (k / 2 + k / 2) + 54 = omega arith in
    ap (λ (n : ℕ). 2 ^ n) e
    ∙ pow-add 2 (k % 2 + (k / 2 + k / 2)) 54
    ∙ ap (λ (x : ℕ). x * 2 ^ 54) (pow-add 2 (k % 2) (k / 2 + k / 2) ∙ ap₂ ◌*◌ (sym (odd_power k)) (pow-add 2 (k / 2) (k / 2)))

inside_is : (m k : ℕ) → m * 2 ^ (k + 54) ≡ inside m k * 2 ^ 46 * (2 ^ (k / 2) * 2 ^ (k / 2))
inside_is m k =
    let v = 2 ^ (k / 2) * 2 ^ (k / 2) in
    ap (λ (x : ℕ). m * x) (power-split k) ∙ multiplied m (k % 2) v
  where
    multiplied : (m d v : ℕ) → m * ((d + 1) * v * 2 ^ 54) ≡ m * 256 * (d + 1) * 2 ^ 46 * v
    multiplied m d v = omega arith

module _ (m k : ℕ) (lead : 2 ^ 52 ≤ m) (fit : m < 2 ^ 53) where
  pub inside-ge : 2 ^ 60 ≤ inside m k
  inside-ge = omega (arith, mul-le-mul {n₁ = 2 ^ 60} {m₁ = 1} {n₂ = m * 256} {m₂ = k % 2 + 1} (omega arith) (omega arith))

  pub inside-le : inside m k ≤ 2 ^ 62 - 2 ^ 9
  inside-le = mul-le-mul {n₁ = m * 256} {m₁ = k % 2 + 1} {n₂ = 2 ^ 61 - 2 ^ 8} {m₂ = 2} (omega arith) (omega arith)

  pub root-near : (r : ℕ) → Root (inside m k) r → Near (m * 2 ^ (k + 54)) (k / 2 * 2 ^ 52 + r)
  root-near r o = subst⁻¹ (λ (y : ℕ). Near y (k / 2 * 2 ^ 52 + r)) (inside_is m k) (placed-near (inside m k) (k / 2) r inside-ge inside-le o)

  pub root_is : k < 3068 → (r : ℕ) → Root (inside m k) r → root_bits (m * 2 ^ (k + 54)) ≡ k / 2 * 2 ^ 52 + r
  root_is h r o =
      let s : r < 2 ^ 53 = root-small (inside m k) r inside-le o.0 in
      near-root (m * 2 ^ (k + 54)) (k / 2 * 2 ^ 52 + r) (omega arith) (root-near r o)
