-- What is listed at the head of an array is read back; and where a fit starts. Assumes nothing.
use Prim.Native.Nat.{ℕ, ◌*◌, ◌≤◌}
use mathlib.Core.List.{List, [], ◌∷◌, ◌++◌}
use lib.ListN.{length, drop}
use lib.Seq.{take_at}
use mathlib.Core.Path.{◌≡◌, refl}
use native.Mathlib.Omega.{arith}
use borrow.Author.Tests.{le-leb}
use lib.Ieee.{Float}
use Rattle.plane.specs.declared.Vec2.{Vec2}
use Rattle.sketch.specs.declared.Point.{Point}
use Rattle.members.specs.declared.Listed.{Listed}
use Rattle.members.specs.Lists.{numbers_of, Lists}
use Rattle.members.specs.declared.Coordinates.{Coordinates}
use Rattle.members.specs.Movable.{indices_of, ListsCoordinates}
use Rattle.members.specs.Scale.{start_of, start_in}

pub numbers-are : {n : ℕ} (r : Listed n) (ps : List ℕ) → Lists r ps → numbers_of r ≡ ps
numbers-are r ps t = rw t.is (take_at ps _ (length ps) refl)

pub indices-are : (f : Coordinates) (cs : List ℕ) → ListsCoordinates f cs → indices_of f ≡ cs
indices-are f cs t = rw t.is (take_at cs _ (length cs) refl)

-- two numbers for each point
pub start-length : (centre : Vec2) (size : Float) (ps : List Point) → length (start_of centre size ps) ≡ 2 * length ps
unfolding start_of
start-length centre size [] = refl
start-length centre size (p ∷ ps) = omega (arith, start-length centre size ps)

pub starts : (centre : Vec2) (size : Float) (ps : List Point) (x : List Float) → 2 * length ps ≤ length x
    → start_in centre size ps x ≡ start_of centre size ps ++ drop (2 * length ps) x
unfolding start_in
starts centre size ps x h = rw (le-leb (2 * length ps) (length x) h)
