-- Patterns and floats: a pattern's value is `count` of it in units of 2 ^ -1074, and what `sqrt_of` is by the pattern. Assumes nothing.
use mathlib.Core.Path.{◌≡◌, refl, sym, ap, ap₂, ◌∙◌, subst, subst⁻¹}
use mathlib.Core.Bool.{Bool, true, false, cond, true≢false}
use Prim.Native.Nat.{ℕ, zero, suc, ◌+◌, ◌*◌, ◌/◌, ◌%◌, ◌^◌, ◌≤◌, ◌<◌}
use native.Mathlib.Nat.{lt_irrefl, mul-one, zero-mul, mul-pos, eq-zero-or-pos, mod-eq_of_lt}
use native.Mathlib.Decide.{dec_lt}
use native.Mathlib.Omega.{arith}
use mathlib.Core.Logic.{◌⊎◌, inl, inr}
use lib.Dec.{T, eqb}
use lib.Pow.{pow_pos}
use lib.Ieee.{Float, nan, inf, fin, binary64, odd, of_fields, of_bits, to_bits, fits, up}
use lib.Ieee.Bits.{of_bits-to_bits, to_bits-lt}
use lib.Ieee.Exact.{HasValue, odd_sign}
use lib.Ieee.Fits.{down_pos}
use lib.Ieee.Positive.{positive, positive_of_value}
use borrow.Author.Tests.{le-leb, lt-leb, ne_eqb}
use Rattle.root.specs.Root.{scaled, count, root_bits, sqrt_of}
use Rattle.root.proofs.Order.{count-lt, count-le}

-- ---- the value of a pattern

-- of the fields of a finite one
value-at : (s : Bool) (e t : ℕ) → e < 2047 → HasValue (of_fields binary64 s e t) s (scaled e t) (2 ^ 1074)
unfolding of_fields scaled
value-at s zero t h = subst (λ (a : ℕ). HasValue (odd 53 s t 0 1074) s a (2 ^ 1074)) (mul-one t) (odd_sign 53 s t 0 1074)
value-at s (suc e) t h =
    let n : suc e ≡ 2047 → ⊥ = omega arith in
    subst⁻¹ (λ (v : Bool). HasValue (cond v (cond (eqb t 0) (inf s) nan) (odd 53 s (2 ^ 52 + t) e 1074)) s ((2 ^ 52 + t) * 2 ^ e) (2 ^ 1074)) (ne_eqb (suc e) 2047 n)
    (odd_sign 53 s (2 ^ 52 + t) e 1074)

-- without a sign
plain : (b : ℕ) → b < 2 ^ 63 → of_bits binary64 b ≡ of_fields binary64 false (b / 2 ^ 52) (b % 2 ^ 52)
unfolding of_bits
plain b h = ap₂ (λ (s : Bool) (a : ℕ). of_fields binary64 s (a / 2 ^ 52) (b % 2 ^ 52)) (lt-leb (2 ^ 63) b h) (mod-eq_of_lt h)

-- and with one
signed : (b : ℕ) → 2 ^ 63 ≤ b → of_bits binary64 b ≡ of_fields binary64 true (b % 2 ^ 63 / 2 ^ 52) (b % 2 ^ 52)
unfolding of_bits
signed b h = ap (λ (s : Bool). of_fields binary64 s (b % 2 ^ 63 / 2 ^ 52) (b % 2 ^ 52)) (le-leb (2 ^ 63) b h)

pub bits-value : (b : ℕ) → b < 2047 * 2 ^ 52 → HasValue (of_bits binary64 b) false (count b) (2 ^ 1074)
unfolding count
bits-value b h =
    subst⁻¹ (λ (v : Float). HasValue v false (scaled (b / 2 ^ 52) (b % 2 ^ 52)) (2 ^ 1074)) (plain b (omega arith))
    (value-at false (b / 2 ^ 52) (b % 2 ^ 52) (omega arith))

-- ---- the root by the pattern

pub bits_positive : (b : ℕ) → 0 < b → b < 2047 * 2 ^ 52 → T (positive (of_bits binary64 b))
bits_positive b p h = positive_of_value (of_bits binary64 b) (count b) (2 ^ 1074) (bits-value b h) (omega (arith, count-lt 0, count-le 1 b p))

pub root-positive : (x : Float) → T (positive x) → sqrt_of x ≡ of_bits binary64 (root_bits (count (to_bits binary64 x) * 2 ^ 1076))
unfolding sqrt_of
root-positive nan p = absurd p
root-positive (inf s) p = absurd p
root-positive (fin true m e) p = absurd p
root-positive (fin false zero e) p = absurd p
root-positive (fin false (suc m) e) p = refl

root-negative : (x : Float) (a c : ℕ) → HasValue x true a c → 0 < a → sqrt_of x ≡ nan
unfolding sqrt_of
root-negative nan a c h p = absurd h
root-negative (inf s) a c h p = absurd h
root-negative (fin false m e) a c h p = absurd (true≢false (sym h.0))
root-negative (fin true zero e) a c h p = absurd (lt_irrefl 0 (subst (λ (n : ℕ). 0 < n) (sym h.1 ∙ zeroed (up e) c) (mul-pos p (down_pos e))))
  where
    zeroed : (u c : ℕ) → 0 * u * c ≡ 0
    zeroed u c = ap (λ (n : ℕ). n * c) (zero-mul u) ∙ zero-mul c
root-negative (fin true (suc m) e) a c h p = refl

-- an infinity or a NaN: all but +infinity have none
last-signed : (t : ℕ) → sqrt_of (of_fields binary64 true 2047 t) ≡ nan
unfolding of_fields sqrt_of
last-signed t = go (eqb t 0)
  where
    go : (v : Bool) → sqrt_of (cond v (inf true) nan) ≡ nan
    go true = refl
    go false = refl

last-nan : (t : ℕ) → 0 < t → sqrt_of (of_fields binary64 false 2047 t) ≡ nan
unfolding of_fields sqrt_of
last-nan t h =
    let n : t ≡ 0 → ⊥ = omega arith in
    ap (λ (v : Bool). sqrt_of (cond v (inf false) nan)) (ne_eqb t 0 n)

scaled-pos : (e t : ℕ) → 0 < e + t → 0 < scaled e t
unfolding scaled
scaled-pos zero t h = omega arith
scaled-pos (suc e) t h = mul-pos (omega arith) (pow_pos e)

-- every pattern past +infinity's but -0.0's: the NaNs and the negatives
pub root-other : (b : ℕ) → 2047 * 2 ^ 52 < b → (b ≡ 2 ^ 63 → ⊥) → b < 2 ^ 64 → sqrt_of (of_bits binary64 b) ≡ nan
root-other b h z w = elim (dec_lt b (2 ^ 63)) [
  | yes l ↦
      let e : b / 2 ^ 52 ≡ 2047 = omega arith in
      ap sqrt_of (plain b l ∙ ap (λ (e : ℕ). of_fields binary64 false e (b % 2 ^ 52)) e) ∙ last-nan (b % 2 ^ 52) (omega arith)
  | no l ↦
      let g : 2 ^ 63 ≤ b = omega arith in
      ap sqrt_of (signed b g) ∙ negative (b % 2 ^ 63 / 2 ^ 52) (b % 2 ^ 52) (omega arith) (omega arith)
]
  where
    negative : (e t : ℕ) → e ≤ 2047 → 0 < e + t → sqrt_of (of_fields binary64 true e t) ≡ nan
    negative e t f p = elim (dec_lt e 2047) [
      | yes l ↦ root-negative (of_fields binary64 true e t) (scaled e t) (2 ^ 1074) (value-at true e t l) (scaled-pos e t p)
      | no l ↦
          let d : e ≡ 2047 = omega arith in
          ap (λ (e : ℕ). sqrt_of (of_fields binary64 true e t)) d ∙ last-signed t
    ]

-- ---- the patterns of the positive values

positive-sign : (x : Float) (s : Bool) (a c : ℕ) → HasValue x s a c → T (positive x) → s ≡ false
positive-sign nan s a c h p = absurd p
positive-sign (inf t) s a c h p = absurd p
positive-sign (fin true m e) s a c h p = absurd p
positive-sign (fin false m e) s a c h p = sym h.0

last-not-positive : (s : Bool) (t : ℕ) → T (positive (of_fields binary64 s 2047 t)) → ⊥
unfolding of_fields
last-not-positive s t p = go (eqb t 0) p
  where
    go : (v : Bool) → T (positive (cond v (inf s) nan)) → ⊥
    go true p = p
    go false p = p

zero-not-positive : T (positive (of_bits binary64 0)) → ⊥
unfolding of_bits
zero-not-positive p = p

fields-finite : (s : Bool) (e t : ℕ) → e ≤ 2047 → T (positive (of_fields binary64 s e t)) → (e < 2047) × (s ≡ false)
fields-finite s e t f p = elim (dec_lt e 2047) [
  | yes l ↦ (l, positive-sign (of_fields binary64 s e t) s (scaled e t) (2 ^ 1074) (value-at s e t l) p)
  | no l ↦
      let d : e ≡ 2047 = omega arith in
      absurd (last-not-positive s t (subst (λ (e : ℕ). T (positive (of_fields binary64 s e t))) d p))
]

bits-finite : (b : ℕ) → b < 2 ^ 64 → T (positive (of_bits binary64 b)) → (0 < b) × (b < 2047 * 2 ^ 52)
bits-finite b w p = elim (dec_lt b (2 ^ 63)) [
  | yes l ↦
      let f = fields-finite false (b / 2 ^ 52) (b % 2 ^ 52) (omega arith) (subst (λ (v : Float). T (positive v)) (plain b l) p) in
      (above (eq-zero-or-pos b), omega (arith, f.0))
  | no l ↦
      let g : 2 ^ 63 ≤ b = omega arith in
      absurd (true≢false (fields-finite true (b % 2 ^ 63 / 2 ^ 52) (b % 2 ^ 52) (omega arith) (subst (λ (v : Float). T (positive v)) (signed b g) p)).1)
]
  where
    above : (b ≡ 0) ⊎ (0 < b) → 0 < b
    above (inl z) = absurd (zero-not-positive (subst (λ (n : ℕ). T (positive (of_bits binary64 n))) z p))
    above (inr h) = h

-- ---- of a float that the format holds, by its own pattern

module _ (x : Float) (held : T (fits binary64 x)) where
  pub own-positive : 0 < to_bits binary64 x → to_bits binary64 x < 2047 * 2 ^ 52 → sqrt_of x ≡ of_bits binary64 (root_bits (count (to_bits binary64 x) * 2 ^ 1076))
  own-positive p h = root-positive x (subst (λ (v : Float). T (positive v)) (of_bits-to_bits binary64 x held) (bits_positive (to_bits binary64 x) p h))

  pub own-other : 2047 * 2 ^ 52 < to_bits binary64 x → (to_bits binary64 x ≡ 2 ^ 63 → ⊥) → sqrt_of x ≡ nan
  own-other h z = subst (λ (v : Float). sqrt_of v ≡ nan) (of_bits-to_bits binary64 x held) (root-other (to_bits binary64 x) h z (to_bits-lt binary64 x held))

  -- a pattern that is its own root
  pub own-kept : (b : ℕ) → to_bits binary64 x ≡ b → sqrt_of (of_bits binary64 b) ≡ of_bits binary64 b → sqrt_of x ≡ x
  own-kept b e h = subst (λ (v : Float). sqrt_of v ≡ v) (ap (of_bits binary64) (sym e) ∙ of_bits-to_bits binary64 x held) h

  pub positive-bits : T (positive x) → (0 < to_bits binary64 x) × (to_bits binary64 x < 2047 * 2 ^ 52)
  positive-bits p = bits-finite (to_bits binary64 x) (to_bits-lt binary64 x held) (subst⁻¹ (λ (v : Float). T (positive v)) (of_bits-to_bits binary64 x held) p)

  -- the value of a positive x is `count` of its pattern
  pub own_value : T (positive x) → HasValue x false (count (to_bits binary64 x)) (2 ^ 1074)
  own_value p = subst (λ (v : Float). HasValue v false (count (to_bits binary64 x)) (2 ^ 1074)) (of_bits-to_bits binary64 x held) (bits-value (to_bits binary64 x) (positive-bits p).1)
