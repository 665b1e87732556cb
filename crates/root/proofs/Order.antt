-- The patterns stand in the order of their values, so `root_bits` finds the one pattern that has y between the squares of its halfway points. Assumes nothing.
use mathlib.Core.Path.{◌≡◌, sym, ap, ap₂, ◌∙◌, subst, subst₂}
use mathlib.Core.Bool.{Bool, true, false, cond}
use Prim.Native.Nat.{ℕ, zero, suc, ◌+◌, ◌-◌, ◌*◌, ◌/◌, ◌%◌, ◌^◌, ◌≤◌, ◌<◌}
use native.Mathlib.Nat.{le_refl, le_trans, le_of_lt, lt_of_le_of_lt, lt_of_not-le, add-le-add, mul-le-mul, mul-lt-mul_of_pos_right, pow-succ'}
use native.Mathlib.Numerals.{add-one}
use native.Mathlib.Decide.{dec_lt, le_ind}
use native.Mathlib.Omega.{arith}
use lib.Arith.{digits_div, digits_mod}
use lib.Pow.{pow_pos}
use borrow.Author.Tests.{lt-ltb, le-ltb}
use Rattle.root.specs.Root.{scaled, count, halfway, below, set_bits, root_bits}

-- ---- one pattern after another

pub count-at : (e t : ℕ) → t < 2 ^ 52 → count (e * 2 ^ 52 + t) ≡ scaled e t
unfolding count
count-at e t h = ap₂ scaled (digits_div e h) (digits_mod e h)

digit : (e t : ℕ) → scaled e t < scaled e (t + 1)
unfolding scaled
digit zero t = omega arith
digit (suc e) t = mul-lt-mul_of_pos_right (omega arith) (pow_pos e)

field : (e t : ℕ) → t < 2 ^ 52 → scaled e t < scaled (suc e) 0
unfolding scaled
field zero t h = omega arith
field (suc e) t h = omega (arith, pow-succ' 2 e, mul-lt-mul_of_pos_right {n = 2 ^ 52} h (pow_pos e))

-- the next pattern has one more digit, or the next exponent
step : (e t : ℕ) → t < 2 ^ 52 → count (e * 2 ^ 52 + t) < count (e * 2 ^ 52 + t + 1)
step e t h = elim (dec_lt (t + 1) (2 ^ 52)) [
  | yes g ↦
      let n : e * 2 ^ 52 + (t + 1) ≡ e * 2 ^ 52 + t + 1 = omega arith in
      subst₂ (λ (a b : ℕ). a < b) (sym (count-at e t h)) (sym (count-at e (t + 1) g) ∙ ap count n) (digit e t)
  | no g ↦
      let n : suc e * 2 ^ 52 + 0 ≡ e * 2 ^ 52 + t + 1 = omega arith in
      subst₂ (λ (a b : ℕ). a < b) (sym (count-at e t h)) (sym (count-at (suc e) 0 (pow_pos 52)) ∙ ap count n) (field e t h)
]

-- each pattern's value is above the one before
pub count-lt : (b : ℕ) → count b < count (b + 1)
count-lt b =
    let e : b / 2 ^ 52 * 2 ^ 52 + b % 2 ^ 52 ≡ b = omega arith in
    subst (λ (n : ℕ). count n < count (n + 1)) e (step (b / 2 ^ 52) (b % 2 ^ 52) (omega arith))

pub count-le : (a b : ℕ) → a ≤ b → count a ≤ count b
count-le a b h =
    le_ind (λ (n : ℕ). count a ≤ count n) (le_refl (count a)) (λ n g ih. le_trans ih (le_of_lt (subst (λ (i : ℕ). count n < count i) (add-one n) (count-lt n)))) b h

-- ---- the halfway points

-- b's lower halfway point, squared, is below y
abbrev pub Low : ℕ → ℕ → Type 0
Low y b = halfway b * halfway b < y

-- and y is below the square of the upper one, which is the lower one of b + 1
abbrev pub Near : ℕ → ℕ → Type 0
Near y b = Low y b × (y < halfway (b + 1) * halfway (b + 1))

halfway-le : (a b : ℕ) → a ≤ b → halfway a ≤ halfway b
unfolding halfway
halfway-le a b h = add-le-add (count-le (a - 1) (b - 1) (omega arith)) (count-le a b h)

pub low-down : (y a b : ℕ) → a ≤ b → Low y b → Low y a
low-down y a b h l = lt_of_le_of_lt (mul-le-mul (halfway-le a b h) (halfway-le a b h)) l

-- a pattern that is low enough is none of those past the one that y is near
pub low_near : (y a b : ℕ) → Low y a → Near y b → a ≤ b
low_near y a b l n = elim (dec_lt b a) [
  | yes g ↦ absurd (over (halfway (b + 1) * halfway (b + 1)) (low-down y (b + 1) a (omega arith) l) n.1)
  | no g ↦ omega arith
]
  where
    over : (s : ℕ) → s < y → y < s → ⊥
    over s h g = omega arith

-- no second pattern has y between the squares of its halfway points
pub near-unique : (y a b : ℕ) → Near y a → Near y b → a ≡ b
near-unique y a b m n =
    let h : a ≤ b = low_near y a b m.0 n in
    let g : b ≤ a = low_near y b a n.0 m in
    omega arith

-- ---- what the bits set from the top come to

-- one bit, by what its test finds
bit-set : (y t : ℕ) → Low y t → below y t ≡ true
unfolding below
bit-set y t l = lt-ltb _ _ l

bit-clear : (y t : ℕ) → (Low y t → ⊥) → below y t ≡ false
unfolding below
bit-clear y t l =
    let g : y ≤ halfway t * halfway t = omega arith in
    le-ltb _ _ g

set_bits-finds : (k y a b : ℕ) → a ≤ b → b < a + 2 ^ k → Near y b → set_bits k y a ≡ b
unfolding set_bits
set_bits-finds zero y a b h g n = omega arith
set_bits-finds (suc k) y a b h g n =
    let t = a + 2 ^ k in
    elim (dec_lt (halfway t * halfway t) y) [
      | yes l ↦
          ap (λ (v : Bool). set_bits k y (cond v t a)) (bit-set y t l)
          ∙ set_bits-finds k y t b (low_near y t b l n) (omega (arith, pow-succ' 2 k)) n
      | no l ↦
          ap (λ (v : Bool). set_bits k y (cond v t a)) (bit-clear y t l)
          ∙ set_bits-finds k y a b h (lt_of_not-le (λ g. l (low-down y t b g n.0))) n
    ]

pub near-root : (y b : ℕ) → b < 2 ^ 63 → Near y b → root_bits y ≡ b
unfolding root_bits
near-root y b h n = set_bits-finds 63 y 0 b (omega arith) (omega arith) n
