-- An equation has as many rows as `rows_of` says, kind by kind, and so at most two. Assumes nothing.
use Prim.Native.Nat.{◌≤◌}
use mathlib.Core.List.{List}
use mathlib.Core.Path.{◌≡◌, refl, sym, ap, ◌∙◌}
use lib.ListN.{length}
use Rattle.plane.specs.declared.Vec2.{Vec2}
use Rattle.sketch.proofs.AtMostTwo.{two-at-most}
use Rattle.sketch.specs.Rows.{rows_of}
use Rattle.sketch.specs.declared.Equation.{Equation}
use Rattle.sketch.specs.declared.Line.{Line}
use Rattle.sketch.specs.declared.PointNo.{PointNo}
use Rattle.rows.specs.Ends.{ends_of, rows_given}
use Rattle.rows.specs.Kinds.{
  coincident_of,
  level_kind_of,
  parallel_of,
  perpendicular_of,
  collinear_of,
  equal_of,
  distance_of,
  axis_distance_of,
  length_of,
  point_line_of,
  arc_ends_of,
  radius_kind_of,
  line_circle_of,
  circle_circle_of,
  line_arc_at_of,
  arc_arc_at_of,
  midpoint_of,
  arc_midpoint_of,
  symmetric_of,
  equal_radius_of,
  rows_of_equation,
}
use Rattle.rows.specs.declared.Ends.{Ends}
use Rattle.rows.proofs.Given.{given}

module _ (ends : Ends) (at : PointNo → Vec2) where
  rows-given : (e : Equation) → length (rows_given ends at e) ≡ rows_of e
  unfolding
      rows_of rows_given coincident_of level_kind_of parallel_of perpendicular_of collinear_of equal_of distance_of axis_distance_of length_of point_line_of
      arc_ends_of radius_kind_of line_circle_of circle_circle_of line_arc_at_of arc_arc_at_of midpoint_of arc_midpoint_of symmetric_of equal_radius_of
  rows-given (Equation.Coincident a b) = refl
  rows-given (Equation.Level a b axis) = refl
  rows-given (Equation.Parallel i j) = refl
  rows-given (Equation.Perpendicular i j) = refl
  rows-given (Equation.Collinear i j) = refl
  rows-given (Equation.Equal i j) = refl
  rows-given Equation.Held = refl
  rows-given (Equation.Distance a b value) = refl
  rows-given (Equation.AxisDistance a b axis value side) = refl
  rows-given (Equation.Length l value) = refl
  rows-given (Equation.PointLine p l value side) = refl
  rows-given (Equation.ArcEnds c f t) = refl
  rows-given (Equation.Radius c f value) = refl
  rows-given (Equation.LineCircle l c rad side) = refl
  rows-given (Equation.CircleCircle c₁ r₁ c₂ r₂ contact) = refl
  rows-given (Equation.LineArcAt l c p) = refl
  rows-given (Equation.ArcArcAt c₁ c₂ p) = refl
  rows-given (Equation.Midpoint p l) = refl
  rows-given (Equation.ArcMidpoint p c f t) = refl
  rows-given (Equation.Symmetric p q l) = refl
  rows-given (Equation.EqualRadius c₁ f₁ c₂ f₂) = refl

  pub bounded : (e : Equation) → length (rows_given ends at e) ≤ 2
  bounded e = rw (rows-given e) (two-at-most e)

module _ (ls : List Line) (at : PointNo → Vec2) where
  pub rows-of : (e : Equation) → length (rows_of_equation ls at e) ≡ rows_of e
  rows-of e = sym (ap length (given ls at e)) ∙ rows-given (ends_of ls e) at e
