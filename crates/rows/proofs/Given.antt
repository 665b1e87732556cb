-- With the ends that a build has, the rows are the equation's. Assumes nothing.
use mathlib.Core.List.{List}
use mathlib.Core.Path.{◌≡◌, refl}
use Rattle.plane.specs.declared.Vec2.{Vec2}
use Rattle.sketch.specs.declared.Equation.{Equation}
use Rattle.sketch.specs.declared.Line.{Line}
use Rattle.sketch.specs.declared.PointNo.{PointNo}
use Rattle.rows.specs.Kinds.{rows_of_equation}
use Rattle.rows.specs.Ends.{ends_of, rows_given}
use Rattle.rows.specs.declared.Ends.{Ends}

-- with the ends that a build has they are the equation's rows
module _ (ls : List Line) (at : PointNo → Vec2) where
  pub given : (e : Equation) → rows_given (ends_of ls e) at e ≡ rows_of_equation ls at e
  unfolding rows_given rows_of_equation
  given (Equation.Coincident a b) = refl
  given (Equation.Level a b axis) = refl
  given (Equation.Parallel i j) = refl
  given (Equation.Perpendicular i j) = refl
  given (Equation.Collinear i j) = refl
  given (Equation.Equal i j) = refl
  given Equation.Held = refl
  given (Equation.Distance a b value) = refl
  given (Equation.AxisDistance a b axis value side) = refl
  given (Equation.Length l value) = refl
  given (Equation.PointLine p l value side) = refl
  given (Equation.ArcEnds c f t) = refl
  given (Equation.Radius c f value) = refl
  given (Equation.LineCircle l c rad side) = refl
  given (Equation.CircleCircle c₁ r₁ c₂ r₂ contact) = refl
  given (Equation.LineArcAt l c p) = refl
  given (Equation.ArcArcAt c₁ c₂ p) = refl
  given (Equation.Midpoint p l) = refl
  given (Equation.ArcMidpoint p c f t) = refl
  given (Equation.Symmetric p q l) = refl
  given (Equation.EqualRadius c₁ f₁ c₂ f₂) = refl

  pub given_by : (e : Equation) (s : Ends) → s ≡ ends_of ls e → rows_given s at e ≡ rows_of_equation ls at e
  given_by e s p = rw p (given e)
