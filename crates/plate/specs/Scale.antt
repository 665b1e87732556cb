-- equations.rs, `measures`, its first lines: the group of all points, and their coordinates as the equations take them. The
-- points stand in one list, x and y of point 0, then of point 1, and so on; where it has ended there is a NaN.
use Rattle.std.specs.Prelude.{ℕ, ◌+◌, ◌*◌, ◌<◌, min, List, ◌≡◌, Float, set, take, replicate}
use Rattle.floats.specs.Ops.{zero⁺}
use Rattle.loops.specs.Turns.{up_to}
use Rattle.plane.specs.Vectors.{in_units}
use Rattle.plane.specs.declared.Vec2.{Vec2}
use Rattle.rows.specs.Located.{point_at, at_of}
use Rattle.sketch.specs.declared.Build.{Build}
use Rattle.sketch.specs.declared.PointNo.{PointNo}

-- [(p.x - self.centre[0]) / self.size, (p.y - self.centre[1]) / self.size]
unfoldable pub scale_at : Vec2 → Float → List Float → ℕ → List Float → List Float
scale_at centre size points p x =
    let q = in_units centre size (point_at points p) in
    set (set x (2 * p) q.x) (2 * p + 1) q.y

-- the first n points, of 40
unfoldable pub all_scaled_of : Vec2 → Float → ℕ → List Float → List Float
all_scaled_of centre size n points = up_to n 0 (scale_at centre size points) (replicate 80 zero⁺)

-- (0..n).collect(): a point stands at its own number
unfoldable pub self_at : ℕ → List ℕ → List ℕ
self_at p places = set places p p

abbrev pub in_order : List ℕ
in_order = up_to 40 0 self_at (replicate 40 0)

-- ---- of a build: of points there are as many as it counts, and at most 40

abbrev pub places_in : Build → List ℕ
places_in b = take (min b.point_count 40) in_order

abbrev pub coordinates_in : Build → List Float → List Float
coordinates_in b points = all_scaled_of b.centre b.size (min b.point_count 40) points

-- where a point stands; a number past the points is point 0's, as in the Rust's `local`
abbrev pub seen_at : Build → List Float → PointNo → Vec2
seen_at b points = at_of (places_in b) (coordinates_in b points)

-- each of the points stands at (coordinate − centre) / size, one difference and one quotient, as `scaled` has it: `brought-back`
-- (proofs/Brought.antt)
abbrev pub BroughtBack : Build → List Float → Type 0
BroughtBack b points = (p : PointNo) → p.0 < min b.point_count 40 → seen_at b points p ≡ in_units b.centre b.size (point_at points p.0)
