-- `sqrt_of` is the correctly rounded root, and nothing else is. Assumes nothing.
use mathlib.Core.Path.{◌≡◌, sym, ap, ◌∙◌, subst, subst⁻¹}
use mathlib.Core.Bool.{not}
use Prim.Native.Nat.{ℕ, ◌+◌, ◌*◌, ◌^◌, ◌≤◌, ◌<◌}
use native.Mathlib.Omega.{arith}
use lib.Dec.{T}
use lib.Ieee.{Float, nan, inf, fin, binary64, fits, is_nan, of_bits, to_bits}
use lib.Ieee.Bits.{of_bits-to_bits, of_bits-fits, to_bits-of_bits}
use lib.Ieee.Positive.{positive, positive-finite}
use Rattle.root.specs.Rounded.{Rounded}
use Rattle.root.specs.Root.{count, halfway, root_bits, sqrt_of}
use Rattle.root.proofs.Whole.{root-exists, root-small, under-large}
use Rattle.root.proofs.Order.{Low, Near, near-unique}
use Rattle.root.proofs.Place.{inside, inside-ge, inside-le, root-near, root_is}
use Rattle.root.proofs.Normal.{normal}
use Rattle.root.proofs.Value.{bits_positive, root-positive, positive-bits}

-- no second value satisfies it
pub rounded-unique : (x r s : Float) → Rounded x r → Rounded x s → r ≡ s
rounded-unique x r s p q =
    sym (of_bits-to_bits binary64 r p.in-format)
    ∙ ap (of_bits binary64) (near-unique (count (to_bits binary64 x) * 2 ^ 1076) (to_bits binary64 r) (to_bits binary64 s) (p.lower, p.upper) (q.lower, q.upper))
    ∙ of_bits-to_bits binary64 s q.in-format

-- ---- the pattern that is found

-- y is near the pattern, which is that of a positive value
abbrev Found : ℕ → ℕ → Type 0
Found y b = Near y b × (0 < b) × (b < 2047 * 2 ^ 52)

found : (b : ℕ) → 0 < b → b < 2047 * 2 ^ 52 → Found (count b * 2 ^ 1076) (root_bits (count b * 2 ^ 1076))
found b p h =
    let n = normal b p h in
    let m = n.0 in
    let k = n.1 in
    let t = inside m k in
    let o = root-exists t (omega (arith, inside-ge m k n.2 n.3)) in
    let r = o.0 in
    let s : r < 2 ^ 53 = root-small t r (inside-le m k n.2 n.3) o.1.0 in
    let l : 2 ^ 52 ≤ r = under-large t r (inside-ge m k n.2 n.3) o.1.1 in
    subst (λ (y : ℕ). Found y (root_bits y)) n.5
    (subst⁻¹ (Found (m * 2 ^ (k + 54))) (root_is m k n.2 n.3 n.4 r o.1) (root-near m k n.2 n.3 r o.1, omega arith, omega (arith, n.4)))

not-nan : (x : Float) → T (positive x) → T (not (is_nan x))
unfolding is_nan
not-nan nan p = absurd p
not-nan (inf s) p = tt
not-nan (fin s m e) p = tt

-- the root of every positive x that the format holds is correctly rounded
pub rounded : (x : Float) → T (positive x) → T (fits binary64 x) → Rounded x (sqrt_of x)
rounded x p h =
    let y = count (to_bits binary64 x) * 2 ^ 1076 in
    let b = root_bits y in
    let f = found (to_bits binary64 x) (positive-bits x h p).0 (positive-bits x h p).1 in
    let q = bits_positive b f.1 f.2 in
    let e : to_bits binary64 (of_bits binary64 b) ≡ b = to_bits-of_bits binary64 b (omega (arith, f.2)) (not-nan (of_bits binary64 b) q) in
    subst⁻¹ (Rounded x) (root-positive x p)
    (record {
      is_finite = positive-finite (of_bits binary64 b) q;
      in-format = of_bits-fits binary64 b;
      lower = subst⁻¹ (Low y) e f.0.0;
      upper = subst⁻¹ (λ (c : ℕ). y < halfway (c + 1) * halfway (c + 1)) e f.0.1;
    })
