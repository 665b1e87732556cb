-- The value of each positive pattern as m * 2 ^ k, with an m of 53 digits: the pattern's own digits, or a subnormal's brought up by its leading zeros. Assumes nothing.
use mathlib.Core.Path.{◌≡◌, sym, ap, ap₂, ◌∙◌, subst}
use Prim.Native.Nat.{ℕ, zero, suc, ◌+◌, ◌-◌, ◌*◌, ◌/◌, ◌%◌, ◌^◌, ◌≤◌, ◌<◌}
use native.Mathlib.Nat.{le_trans, lt_of_not-le, lt_irrefl, lt_of_lt_of_le, add_comm, mul_assoc, mul-le-mul_right, mul-lt-mul_of_pos_right}
use native.Mathlib.Decide.{dec_lt}
use native.Mathlib.Omega.{arith}
use lib.Count.{count_leading_zeros, leading_top}
use lib.Pow.{pow_pos, pow-add, pow_mono}
use Rattle.root.specs.Root.{scaled, count}

-- ---- subnormals

pub count_low : (b : ℕ) → b < 2 ^ 52 → count b ≡ b
unfolding count
count_low b h =
    let e : b / 2 ^ 52 ≡ 0 = omega arith in
    let d : b % 2 ^ 52 ≡ b = omega arith in
    ap₂ scaled e d

-- the b with its leading digit brought to the place 2 ^ 52, z being its leading zeros
abbrev pub raised : ℕ → ℕ → ℕ
raised b z = b * 2 ^ (z - 11)

module _ (b : ℕ) (pos : 0 < b) (low : b < 2 ^ 52) where
  small : b < 2 ^ 64
  small = omega arith

  pub zeros-bounds : (12 ≤ count_leading_zeros 64 b) × (count_leading_zeros 64 b ≤ 63)
  zeros-bounds =
      let t = leading_top 64 b pos small in
      let j : t.0 < 52 = lt_of_not-le (λ (g : 52 ≤ t.0). lt_irrefl b (lt_of_lt_of_le low (le_trans (pow_mono g) t.2))) in
      (omega (arith, t.1), omega (arith, t.1))

  pub raised-bounds : (2 ^ 52 ≤ raised b (count_leading_zeros 64 b)) × (raised b (count_leading_zeros 64 b) < 2 ^ 53)
  raised-bounds =
      let t = leading_top 64 b pos small in
      let z = count_leading_zeros 64 b in
      let i : t.0 + (z - 11) ≡ 52 = omega (arith, t.1, zeros-bounds) in
      let j : suc t.0 + (z - 11) ≡ 53 = omega (arith, t.1, zeros-bounds) in (
        subst (λ (n : ℕ). n ≤ raised b z) (sym (pow-add 2 t.0 (z - 11)) ∙ ap (λ (n : ℕ). 2 ^ n) i) (mul-le-mul_right (2 ^ (z - 11)) t.2),
        subst (λ (n : ℕ). raised b z < n) (sym (pow-add 2 (suc t.0) (z - 11)) ∙ ap (λ (n : ℕ). 2 ^ n) j) (mul-lt-mul_of_pos_right t.3 (pow_pos (z - 11))),
      )

  pub raised_is : raised b (count_leading_zeros 64 b) * 2 ^ (1033 - count_leading_zeros 64 b + 54) ≡ b * 2 ^ 1076
  raised_is =
      let z = count_leading_zeros 64 b in
      let i : z - 11 + (1033 - z + 54) ≡ 1076 = omega (arith, zeros-bounds) in
      mul_assoc b (2 ^ (z - 11)) (2 ^ (1033 - z + 54)) ∙ ap (λ (n : ℕ). b * n) (sym (pow-add 2 (z - 11) (1033 - z + 54)) ∙ ap (λ (n : ℕ). 2 ^ n) i)

-- ---- the others

scaled-is : (e t : ℕ) → 1 ≤ e → (t + 2 ^ 52) * 2 ^ (e + 1021 + 54) ≡ scaled e t * 2 ^ 1076
unfolding scaled
scaled-is zero t h = absurd (no h)
  where
    no : 1 ≤ 0 → ⊥
    no h = omega arith
scaled-is (suc e) t h =
    let i : suc e + 1021 + 54 ≡ e + 1076 = omega arith in
    ap₂ ◌*◌ (add_comm t (2 ^ 52)) (ap (λ (n : ℕ). 2 ^ n) i ∙ pow-add 2 e 1076) ∙ sym (mul_assoc (2 ^ 52 + t) (2 ^ e) (2 ^ 1076))

pub normal-is : (b : ℕ) → 2 ^ 52 ≤ b → (b % 2 ^ 52 + 2 ^ 52) * 2 ^ (b / 2 ^ 52 + 1021 + 54) ≡ count b * 2 ^ 1076
unfolding count
normal-is b h = scaled-is (b / 2 ^ 52) (b % 2 ^ 52) (omega arith)

-- ---- both

pub normal : (b : ℕ) → 0 < b → b < 2047 * 2 ^ 52 → (m : ℕ) × (k : ℕ) × (2 ^ 52 ≤ m) × (m < 2 ^ 53) × (k < 3068) × (m * 2 ^ (k + 54) ≡ count b * 2 ^ 1076)
normal b p h = elim (dec_lt b (2 ^ 52)) [
  | yes l ↦
      let z = count_leading_zeros 64 b in
      let g = raised-bounds b p l in
      (raised b z, 1033 - z, g.0, g.1, omega (arith, zeros-bounds b p l), raised_is b p l ∙ ap (λ (n : ℕ). n * 2 ^ 1076) (sym (count_low b l)))
  | no l ↦ (b % 2 ^ 52 + 2 ^ 52, b / 2 ^ 52 + 1021, omega arith, omega arith, omega arith, normal-is b (omega arith))
]
