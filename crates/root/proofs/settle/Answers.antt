-- `root::settle` meets its contract. d * 2 ^ 46 is at most 8 r, the distance to the squares on either side. Assumes nothing.
use mathlib.Core.Path.{◌≡◌, ap, subst, subst⁻¹}
use mathlib.Core.Bool.{Bool}
use Prim.Native.Nat.{ℕ, ◌+◌, ◌-◌, ◌*◌, ◌/◌, ◌^◌, ◌≤◌, ◌<◌}
use native.Mathlib.Decide.{dec_lt}
use native.Mathlib.Omega.{arith}
use lib.Dec.{ltb}
use mir.Val.{bool_byte}
use borrow.Author.Tests.{lt-ltb, le-ltb}
use Rattle.root.specs.Whole.{Over, Under, Root}
use Rattle.root.proofs.Whole.{no_tie, up}
use Rattle.root.proofs.Halves.{square-over, square-under}
use Rattle.root.proofs.settle.Goals as goal

-- what `r + (f < t) as u64` is, on either side of the test
more : (t r f : ℕ) → f < t → r + bool_byte (ltb f t) ≡ r + 1
more t r f h = ap (λ (b : Bool). r + bool_byte b) (lt-ltb f t h)

same : (t r f : ℕ) → t ≤ f → r + bool_byte (ltb f t) ≡ r
same t r f h =
    let e : r + bool_byte (ltb f t) ≡ r + 0 = ap (λ (b : Bool). r + bool_byte b) (le-ltb f t h) in
    omega arith

module _ (t r f : ℕ) (sq : f ≡ (2 * r + 1) * (2 * r + 1) / 2 ^ 46) where
  above : f < t → Over t (r + 1)
  above h = up (t * 2 ^ 46) r (square-over (2 * r + 1) t f sq h)

  under : t ≤ f → Under t r
  under h = no_tie t r (square-under (2 * r + 1) t f sq h)

  next : f < t → t ≤ f + r / 0x800_0000_0000 → Root t (r + 1)
  next h d = (above h, no_tie t (r + 1) (omega arith))

-- the lower point of q + 1, from the upper one's square
lower : (t q f : ℕ) → f ≡ (2 * (q + 1) + 1) * (2 * (q + 1) + 1) / 2 ^ 46 → f < t + (q + 1) / 0x800_0000_0000 → Over t (q + 1)
lower t q f sq d = up (t * 2 ^ 46) q (omega arith)

here : (t r f : ℕ) → f ≡ (2 * r + 1) * (2 * r + 1) / 2 ^ 46 → t ≤ f → f < t + r / 0x800_0000_0000 → Root t r
here t r f sq h d =
    let e : r - 1 + 1 ≡ r = omega arith in
    (subst (λ (n : ℕ). f ≡ (2 * n + 1) * (2 * n + 1) / 2 ^ 46 → f < t + n / 0x800_0000_0000 → Over t n) e (lower t (r - 1) f) sq d, under t r f sq h)

pub returns-then-f-t : goal.returns-then-f-t
returns-then-f-t c =
    let t = c.args.t in
    let r = c.args.r in
    let f = c.square-f.result in
    let e = c.square-f.ensures in
    elim (dec_lt f t) [
      | yes h ↦ subst⁻¹ (Root t) (more t r f h) (next t r f e h c.if-t-f.true)
      | no h ↦
          let g : t ≤ f = omega arith in
          subst⁻¹ (Root t) (same t r f g) (here t r f e g c.if-f-t.true)
    ]
