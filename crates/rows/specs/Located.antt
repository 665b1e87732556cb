-- Where things are at the coordinates x of a group: equations.rs, `residuals`, its first lines, and `dir`.
use Rattle.std.specs.Prelude.{ℕ, ◌+◌, ◌*◌, List, Float, get_or}
use Rattle.std.specs.Float.{nan}
use Rattle.plane.specs.Vectors.{unit_from_of}
use Rattle.plane.specs.declared.Dir.{Dir}
use Rattle.plane.specs.declared.Vec2.{Vec2}
use Rattle.sketch.specs.declared.Line.{Line}
use Rattle.sketch.specs.declared.PointNo.{PointNo}
use Rattle.rows.specs.declared.located.Located.{Located}

-- The Rust's `local`: the place of a point among the group's points, from a filled table, and 0 past its end
abbrev pub local_of : List ℕ → PointNo → ℕ
local_of places p = get_or places p.0 0

-- The Rust's `at`: a point's two coordinates stand next to each other
abbrev pub point_at : List Float → ℕ → Vec2
point_at x k = record { x = get_or x (2 * k) nan; y = get_or x (2 * k + 1) nan }

unfoldable pub at_of : List ℕ → List Float → PointNo → Vec2
at_of places x p = point_at x (local_of places p)

-- where a point stands by the table and the coordinates that the code passes on together
abbrev pub seen : Located → PointNo → Vec2
seen points = at_of points.places.now points.x.now

-- The Rust's `dir`, of a line by its ends
abbrev pub dir_of : (PointNo → Vec2) → Line → Dir
dir_of at l = unit_from_of (at l.from) (at l.to)
