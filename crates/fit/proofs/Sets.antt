-- From what the calls of `set_out` promise to the frame, and what a frame lists. Assumes nothing.
use Prim.Native.Nat.{ℕ}
use mathlib.Core.List.{List}
use mathlib.Core.Path.{◌≡◌, refl}
use lib.ListN.{length}
use lib.Seq.{take_at}
use Rattle.groups.specs.Chains.{points_in, equations_in}
use Rattle.groups.specs.declared.Grouping.{Grouping}
use Rattle.members.specs.Lists.{Lists, numbers_of}
use Rattle.members.proofs.Readings.{numbers-are, indices-are}
use Rattle.members.specs.Movable.{ListsCoordinates, points_at, free_from, indices_of}
use Rattle.members.specs.Tables.{places_of, columns_of}
use Rattle.members.specs.declared.Coordinates.{Coordinates}
use Rattle.members.specs.declared.Equations.{Equations}
use Rattle.members.specs.declared.Points.{Points}
use Rattle.sketch.specs.declared.Point.{Point}
use Rattle.fit.specs.Frames.{frame_of}

pub set-out-is : (points : List Point) (gr : Grouping) (g : ℕ) (l : Points) (e : Equations) (f : Coordinates) (places columns : List ℕ) → Lists l.0 (points_in gr g)
    → Lists e.0 (equations_in gr g) → ListsCoordinates f (free_from 0 (points_at points (numbers_of l.0))) → places ≡ places_of (numbers_of l.0) → columns ≡ columns_of (indices_of f)
    → record { points = l; equations = e; free = f; places = places; columns = columns } ≡ frame_of points gr g
unfolding frame_of
set-out-is points gr g l e f places columns hl he hf hp hc =
    let h : ListsCoordinates f (free_from 0 (points_at points (points_in gr g))) = rw (numbers-are l.0 (points_in gr g) hl) at hf in
    rw (hp, hc, numbers-are l.0 (points_in gr g) hl, indices-are f (free_from 0 (points_at points (points_in gr g))) h, hl.is, he.is, h.is)

-- what a frame lists can be read back
module _ (points : List Point) (gr : Grouping) (g : ℕ) where
  pub points-back : numbers_of (frame_of points gr g).points.0 ≡ points_in gr g
  unfolding frame_of
  points-back = take_at (points_in gr g) _ (length (points_in gr g)) refl

  pub equations-back : numbers_of (frame_of points gr g).equations.0 ≡ equations_in gr g
  unfolding frame_of
  equations-back = take_at (equations_in gr g) _ (length (equations_in gr g)) refl
