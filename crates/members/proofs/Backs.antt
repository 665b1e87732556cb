-- A point put back at its size, and the loop over the listed points. Assumes nothing.
use Prim.Native.Nat.{ℕ, ◌+◌, ◌*◌, ◌<◌}
use mathlib.Core.Bool.{true}
use mathlib.Core.List.{List}
use mathlib.Core.Path.{◌≡◌, ap, ◌∙◌}
use lib.Dec.{ltb}
use lib.Ieee.{Float, nan}
use lib.ListN.{length, get_or, set}
use Rattle.loops.proofs.Parts.{any-default}
use Rattle.loops.specs.Turns.{up_to}
use Rattle.loops.proofs.Turning.{up_to-next}
use Rattle.plane.specs.declared.Vec2.{Vec2}
use Rattle.sketch.specs.declared.Point.{Point}
use Rattle.members.specs.Movable.{nowhere}
use Rattle.members.specs.Scale.{back_to, unscale_to, unscale_at}

module _ (points : List Point) (centre : Vec2) (size : Float) (x : List Float) where
  pub put_back : (q : Point) (p k : ℕ) (out out₁ out₂ : List Float) (a b u v : Float) (r : Vec2) → true ≡ ltb p (length points) → q ≡ get_or points p nowhere
      → out₂ ≡ set out₁ (2 * p + 1) v → v ≡ r.y → out₁ ≡ set out (2 * p) u → u ≡ r.x
      → r ≡ back_to centre size q.state q.start (record { x = a; y = b }) → b ≡ get_or x (2 * k + 1) nan
      → a ≡ get_or x (2 * k) nan → out₂ ≡ unscale_to points centre size p x k out
  unfolding unscale_to
  put_back q p k out out₁ out₂ a b u v r h s e₁ e₂ e₃ e₄ e₅ e₆ e₇ = rw (← h, ← s) (e₁ ∙ rw (e₂, e₃, e₄, e₅, e₆, e₇))

  -- a turn of `unscale`, of the k-th number of the list
  pub back-turn : (ps : List ℕ) (k d : ℕ) (out out' R : List Float) → k < length ps → out' ≡ unscale_to points centre size (get_or ps k d) x k out
      → up_to (length ps) k (unscale_at points centre size ps x) out ≡ R → up_to (length ps) (k + 1) (unscale_at points centre size ps x) out' ≡ R
  unfolding unscale_at
  back-turn ps k d out out' R h q r =
      up_to-next (unscale_at points centre size ps x) (length ps) k out out' R h
      (q ∙ ap (λ p. unscale_to points centre size p x k out) (any-default ps k d 0 h)) r
