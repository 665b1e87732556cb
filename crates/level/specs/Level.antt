-- equations.rs, `level`, of points in one list: x and y of point 0, then of point 1, and so on. Of points and of equations there
-- are as many as the build counts, and at most 40: nothing past its arrays is there. A number of an equation that no point of the
-- build has is not refused: what stands in its place is read, a NaN where the list has ended, and a store past the list's end
-- does nothing.
use Rattle.std.specs.Prelude.{ℕ, ◌+◌, ◌*◌, min, Bool, false, cond, not, ◌&&◌, List, eqb, Float, get_or, set}
use Rattle.std.specs.Float.{nan}
use Rattle.loops.specs.Turns.{up_to, fold}
use Rattle.sketch.specs.Parts.{equations_of}
use Rattle.sketch.specs.declared.Active.{Active}
use Rattle.sketch.specs.declared.Build.{Build}
use Rattle.sketch.specs.declared.Equation.{Equation}
use Rattle.level.specs.Fixed.{fixed_of}
use Rattle.level.specs.Parents.{Gives, find_of, join_to, alone}

-- what an equation asks for: two points level, or nothing
pub data Asks : Type 0 where
  levels : ℕ → ℕ → Asks
  nothing : Asks

-- if let Eq::Level(a, b, ax) = *e && ax == axis
abbrev pub asks_of : ℕ → Equation → Asks
asks_of axis (Equation.Coincident a b) = nothing
asks_of axis (Equation.Level a b ax) = cond (eqb ax axis) (levels a.0 b.0) nothing
asks_of axis (Equation.Parallel i j) = nothing
asks_of axis (Equation.Perpendicular i j) = nothing
asks_of axis (Equation.Collinear i j) = nothing
asks_of axis (Equation.Equal i j) = nothing
asks_of axis Equation.Held = nothing
asks_of axis (Equation.Distance a b value) = nothing
asks_of axis (Equation.AxisDistance a b along value side) = nothing
asks_of axis (Equation.Length l value) = nothing
asks_of axis (Equation.PointLine p l value side) = nothing
asks_of axis (Equation.ArcEnds c f t) = nothing
asks_of axis (Equation.Radius c f value) = nothing
asks_of axis (Equation.LineCircle l c rad side) = nothing
asks_of axis (Equation.CircleCircle c₁ r₁ c₂ r₂ contact) = nothing
asks_of axis (Equation.LineArcAt l c p) = nothing
asks_of axis (Equation.ArcArcAt c₁ c₂ p) = nothing
asks_of axis (Equation.Midpoint p l) = nothing
asks_of axis (Equation.ArcMidpoint p c f t) = nothing
asks_of axis (Equation.Symmetric p q l) = nothing
asks_of axis (Equation.EqualRadius c₁ f₁ c₂ f₂) = nothing

abbrev pub join_asked : List Bool → List ℕ → Asks → List ℕ
join_asked fixed ps (levels a b) = join_to fixed a b ps
join_asked fixed ps nothing = ps

unfoldable pub join_equation : ℕ → List Bool → List ℕ → Active → List ℕ
join_equation axis fixed ps a = join_asked fixed ps (asks_of axis a.equation)

-- for e in &self.eqs[..self.active]
unfoldable pub joined : ℕ → List Bool → List Active → List ℕ → List ℕ
joined axis fixed es ps = fold (join_equation axis fixed) ps es

-- where point p stands on the axis
abbrev pub place : ℕ → ℕ → ℕ
place axis p = 2 * p + axis

-- if root != p && !self.fixed[p]
abbrev pub follows : List Bool → ℕ → ℕ → Bool
follows fixed root p = not (eqb root p) && not (get_or fixed p false)

-- one turn of `for p in 0..points.len()`
unfoldable pub level_point : ℕ → List Bool → ℕ → Gives (List Float) → Gives (List Float)
level_point axis fixed p s =
    let r = find_of s.parents p in
    let v = get_or s.answer (place axis r.answer) nan in
    record { parents = r.parents; answer = cond (follows fixed r.answer p) (set s.answer (place axis p) v) s.answer }

-- the sweep over n points
unfoldable pub level_points : ℕ → List Bool → ℕ → List ℕ → List Float → List Float
level_points axis fixed n ps points = (up_to n 0 (level_point axis fixed) (record { parents = ps; answer = points })).answer

-- one turn of `for axis in 0..2`
unfoldable pub level_axis : List Bool → List Active → ℕ → ℕ → List Float → List Float
level_axis fixed es n axis points = level_points axis fixed n (joined axis fixed es alone) points

unfoldable pub level_of : Build → List Float → List Float
level_of b points = up_to 2 0 (level_axis (fixed_of b.points) (equations_of b) (min b.point_count 40)) points
