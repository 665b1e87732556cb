-- lib.rs, `solve`: the points while the groups are fitted, and when the last is. They stand in one list, x and y of point 0, then
-- of point 1, and so on, for all 40 places of a build; what stands past its points is cut off before it is handed out.
use Rattle.std.specs.Prelude.{ℕ, ◌+◌, ◌*◌, List, ◌++◌, Float, get_or, take, drop, replicate}
use Rattle.floats.specs.Ops.{zero⁺}
use Rattle.level.specs.Level.{level_of}
use Rattle.loops.specs.Turns.{up_to}
use Rattle.measures.specs.Gauges.{gauged_of}
use Rattle.members.specs.Movable.{nowhere}
use Rattle.members.specs.Scale.{put_point}
use Rattle.sketch.specs.declared.Build.{Build}
use Rattle.sketch.specs.declared.Point.{Point}
use Rattle.sketch.specs.declared.State.{State}
use Rattle.sketch.specs.declared.State.TheVariants.{Free, Kept, Placed}

-- `eq.start.clone()`
unfoldable pub drawn_at : List Point → ℕ → List Float → List Float
drawn_at points p out = put_point p (get_or points p nowhere).start out

unfoldable pub drawn : List Point → List Float
drawn points = up_to 40 0 (drawn_at points) (replicate 80 zero⁺)

-- one turn of `for (p, at) in eq.fixed_at.iter().enumerate()`
abbrev pub place_state : State → ℕ → List Float → List Float
place_state Free p out = out
place_state Kept p out = out
place_state (Placed at) p out = put_point p at out

unfoldable pub place_at : List Point → ℕ → List Float → List Float
place_at points p out = place_state (get_or points p nowhere).state p out

unfoldable pub placed_in : List Point → List Float → List Float
placed_in points out = up_to 40 0 (place_at points) out

-- `eq.level(&mut points)`, once the placed points are put: from the points of the fits to the points that are handed out
unfoldable pub levelled : Build → List Float → List Float
levelled b points = level_of b (take (2 * b.point_count) (placed_in b.points points))

-- the points, then the measures taken from them; the rest is as it was
unfoldable pub handed_out : Build → List Float → List Float → List Float
handed_out b points out =
    let l = levelled b points in
    l ++ (gauged_of b l ++ drop (2 * b.point_count + b.measure_count) out)
