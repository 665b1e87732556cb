-- equations.rs, `scaled`, `unscale` and the `x0` of `fit`, and lib.rs, `solve`, where the points of a group are put among all.
-- A point's two coordinates stand next to each other.
use Rattle.std.specs.Prelude.{ℕ, ◌+◌, ◌*◌, cond, List, [], ◌∷◌, ◌++◌, ltb, leb, Float, length, get_or, drop, set}
use Rattle.std.specs.Float.{nan}
use Rattle.std.specs.Float.Ieee.{eq}
use Rattle.floats.specs.Ops.{◌⊕◌, ◌⊖◌, ◌⊗◌, zero⁺}
use Rattle.loops.specs.Turns.{up_to}
use Rattle.plane.specs.Vectors.{in_units}
use Rattle.plane.specs.declared.Vec2.{Vec2}
use Rattle.sketch.specs.declared.Point.{Point}
use Rattle.sketch.specs.declared.State.{State}
use Rattle.sketch.specs.declared.State.TheVariants.{Free, Kept, Placed}
use Rattle.members.specs.Movable.{nowhere}

-- `self.fixed_at[p].unwrap_or(self.start[p])`
abbrev pub standing : State → Vec2 → Vec2
standing Free start = start
standing Kept start = start
standing (Placed at) start = at

abbrev pub scaled_of : Vec2 → Float → Point → Vec2
scaled_of centre size p = in_units centre size (standing p.state p.start)

-- `g.points.iter().flat_map(|&p| self.scaled(p))`
unfoldable pub start_of : Vec2 → Float → List Point → List Float
start_of centre size [] = []
start_of centre size (p ∷ ps) = (scaled_of centre size p).x ∷ (scaled_of centre size p).y ∷ start_of centre size ps

-- at the head of a lent slice; where it is too short nothing happens
unfoldable pub start_in : Vec2 → Float → List Point → List Float → List Float
start_in centre size ps x = cond (leb (2 * length ps) (length x)) (start_of centre size ps ++ drop (2 * length ps) x) x

-- the Rust's `move_by`: x is where a coordinate ended and s where it started, in units of size
unfoldable pub move_by : Float → Float → Float → Float
move_by size x s = cond (eq x s) zero⁺ ((x ⊖ s) ⊗ size)

-- one point back at its size: from its start, and from where it started and ended in units of size
abbrev pub moved : Float → Vec2 → Vec2 → Vec2 → Vec2
moved size start s x = record { x = start.x ⊕ move_by size x.x s.x; y = start.y ⊕ move_by size x.y s.y }

-- a placed point is its place; any other moves from its start, which is where its `scaled` is taken
abbrev pub back_to : Vec2 → Float → State → Vec2 → Vec2 → Vec2
back_to centre size Free start x = moved size start (in_units centre size start) x
back_to centre size Kept start x = moved size start (in_units centre size start) x
back_to centre size (Placed at) start x = at

-- the k-th of a group's coordinates
abbrev pub coordinates_at : List Float → ℕ → Vec2
coordinates_at x k = record { x = get_or x (2 * k) nan; y = get_or x (2 * k + 1) nan }

-- `points[p] = r.points[k]`, two numbers for a point
abbrev pub put_point : ℕ → Vec2 → List Float → List Float
put_point p q out = set (set out (2 * p) q.x) (2 * p + 1) q.y

-- the k-th point of the group, p; a number that no point has is passed over
unfoldable pub unscale_to : List Point → Vec2 → Float → ℕ → List Float → ℕ → List Float → List Float
unscale_to points centre size p x k out =
    let q = get_or points p nowhere in
    cond (ltb p (length points)) (put_point p (back_to centre size q.state q.start (coordinates_at x k)) out) out

unfoldable pub unscale_at : List Point → Vec2 → Float → List ℕ → List Float → ℕ → List Float → List Float
unscale_at points centre size ps x k out = unscale_to points centre size (get_or ps k 0) x k out

unfoldable pub unscale_of : List Point → Vec2 → Float → List ℕ → List Float → List Float → List Float
unscale_of points centre size ps x out = up_to (length ps) 0 (unscale_at points centre size ps x) out
