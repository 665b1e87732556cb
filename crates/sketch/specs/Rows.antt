-- Number 6 of document 01: the residual rows of each kind, and of a build. Two rows: coincident, collinear, midpoint,
-- arcmidpoint, symmetric. None: held. One: all others.
use Rattle.std.specs.Prelude.{ℕ, ◌+◌}
use Rattle.loops.specs.Turns.{fold}
use Rattle.sketch.specs.Parts.{equations_of}
use Rattle.sketch.specs.declared.Active.{Active}
use Rattle.sketch.specs.declared.Build.{Build}
use Rattle.sketch.specs.declared.Equation.{Equation}

unfoldable pub rows_of : Equation → ℕ
rows_of (Equation.Coincident a b) = 2
rows_of (Equation.Level a b axis) = 1
rows_of (Equation.Parallel i j) = 1
rows_of (Equation.Perpendicular i j) = 1
rows_of (Equation.Collinear i j) = 2
rows_of (Equation.Equal i j) = 1
rows_of Equation.Held = 0
rows_of (Equation.Distance a b value) = 1
rows_of (Equation.AxisDistance a b axis value side) = 1
rows_of (Equation.Length l value) = 1
rows_of (Equation.PointLine p l value side) = 1
rows_of (Equation.ArcEnds c f t) = 1
rows_of (Equation.Radius c f value) = 1
rows_of (Equation.LineCircle l c rad side) = 1
rows_of (Equation.CircleCircle c₁ r₁ c₂ r₂ contact) = 1
rows_of (Equation.LineArcAt l c p) = 1
rows_of (Equation.ArcArcAt c₁ c₂ p) = 1
rows_of (Equation.Midpoint p l) = 2
rows_of (Equation.ArcMidpoint p c f t) = 2
rows_of (Equation.Symmetric p q l) = 2
rows_of (Equation.EqualRadius c₁ f₁ c₂ f₂) = 1

unfoldable pub more_rows : ℕ → Active → ℕ
more_rows n a = n + rows_of a.equation

abbrev pub rows_of_build : Build → ℕ
rows_of_build b = fold more_rows 0 (equations_of b)
