-- An equation has at most two rows. Assumes nothing.
use Prim.Native.Nat.{◌≤◌}
use lib.Dec.{lit≤}
use Rattle.sketch.specs.Rows.{rows_of}
use Rattle.sketch.specs.declared.Equation.{Equation}

pub two-at-most : (e : Equation) → rows_of e ≤ 2
unfolding rows_of
two-at-most (Equation.Coincident a b) = lit≤ tt
two-at-most (Equation.Level a b axis) = lit≤ tt
two-at-most (Equation.Parallel i j) = lit≤ tt
two-at-most (Equation.Perpendicular i j) = lit≤ tt
two-at-most (Equation.Collinear i j) = lit≤ tt
two-at-most (Equation.Equal i j) = lit≤ tt
two-at-most Equation.Held = lit≤ tt
two-at-most (Equation.Distance a b value) = lit≤ tt
two-at-most (Equation.AxisDistance a b axis value side) = lit≤ tt
two-at-most (Equation.Length l value) = lit≤ tt
two-at-most (Equation.PointLine p l value side) = lit≤ tt
two-at-most (Equation.ArcEnds c f t) = lit≤ tt
two-at-most (Equation.Radius c f value) = lit≤ tt
two-at-most (Equation.LineCircle l c rad side) = lit≤ tt
two-at-most (Equation.CircleCircle c₁ r₁ c₂ r₂ contact) = lit≤ tt
two-at-most (Equation.LineArcAt l c p) = lit≤ tt
two-at-most (Equation.ArcArcAt c₁ c₂ p) = lit≤ tt
two-at-most (Equation.Midpoint p l) = lit≤ tt
two-at-most (Equation.ArcMidpoint p c f t) = lit≤ tt
two-at-most (Equation.Symmetric p q l) = lit≤ tt
two-at-most (Equation.EqualRadius c₁ f₁ c₂ f₂) = lit≤ tt
