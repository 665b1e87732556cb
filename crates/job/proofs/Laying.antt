-- The turns of the loops over the points. Assumes nothing.
use Prim.Native.Nat.{ℕ, ◌+◌, ◌<◌}
use mathlib.Core.List.{List}
use mathlib.Core.Path.{◌≡◌, refl}
use lib.Ieee.{Float}
use lib.ListN.{length, get_or}
use Rattle.loops.proofs.Parts.{any-default}
use Rattle.loops.specs.Turns.{up_to}
use Rattle.loops.proofs.Turning.{up_to-next}
use Rattle.members.specs.Movable.{nowhere}
use Rattle.members.specs.Scale.{put_point}
use Rattle.plane.specs.declared.Vec2.{Vec2}
use Rattle.sketch.specs.declared.Point.{Point}
use Rattle.sketch.specs.declared.State.{State}
use Rattle.sketch.specs.declared.State.TheVariants.{Free, Kept, Placed}
use Rattle.job.specs.Points.{drawn_at, place_state, place_at}

-- a placed point goes to its place
pub places : (s : State) (at : Vec2) (p : ℕ) (out out' : List Float) → s ≡ Placed at → out' ≡ put_point p at out → out' ≡ place_state s p out
places s at p out out' h e = rw h e

-- a point that is not placed leaves all as it was
pub stays : (s : State) (p : ℕ) (out : List Float) → ((at : Vec2) → s ≡ Placed at → ⊥) → out ≡ place_state s p out
stays Free p out h = refl
stays Kept p out h = refl
stays (Placed at) p out h = absurd (h at refl)

module _ (points : List Point) (d : Point) (p : ℕ) (out out' R : List Float) (l : length points ≡ 40) (h : p < 40) where
  same : get_or points p d ≡ get_or points p nowhere
  same = any-default points p d nowhere (rw l h)

  pub drawn-turn : out' ≡ put_point p (get_or points p d).start out → up_to 40 p (drawn_at points) out ≡ R → up_to 40 (p + 1) (drawn_at points) out' ≡ R
  unfolding drawn_at
  drawn-turn e r = up_to-next (drawn_at points) 40 p out out' R h (rw same at e) r

  pub place-turn : out' ≡ place_state (get_or points p d).state p out → up_to 40 p (place_at points) out ≡ R → up_to 40 (p + 1) (place_at points) out' ≡ R
  unfolding place_at
  place-turn e r = up_to-next (place_at points) 40 p out out' R h (rw same at e) r
