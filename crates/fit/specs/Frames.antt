-- A group set out for its fit: equations.rs, `fit`, its first lines. The definitions take the whole build and the group's number.
use Rattle.std.specs.Prelude.{ℕ, List, Float}
use Rattle.groups.specs.Chains.{points_in, equations_in}
use Rattle.groups.specs.declared.Grouping.{Grouping}
use Rattle.members.specs.Lists.{listed_of, numbers_of}
use Rattle.members.specs.Movable.{points_at, free_from, coordinates_of}
use Rattle.members.specs.Scale.{start_of}
use Rattle.members.specs.Tables.{places_of, columns_of}
use Rattle.sketch.specs.declared.Build.{Build}
use Rattle.sketch.specs.declared.Point.{Point}
use Rattle.fit.specs.declared.Frame.{Frame}

-- the free coordinates of group g
abbrev pub free_in : List Point → Grouping → ℕ → List ℕ
free_in points gr g = free_from 0 (points_at points (points_in gr g))

unfoldable pub frame_of : List Point → Grouping → ℕ → Frame
frame_of points gr g = record {
  points = record { 0 = listed_of (points_in gr g) };
  equations = record { 0 = listed_of (equations_in gr g) };
  free = coordinates_of (free_in points gr g);
  places = places_of (points_in gr g);
  columns = columns_of (free_in points gr g);
}

-- where the fit of a group starts: the Rust's `x0`
abbrev pub start_in : Build → Frame → List Float
start_in b f = start_of b.centre b.size (points_at b.points (numbers_of f.points.0))
