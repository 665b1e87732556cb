-- The lines that an equation names, looked up before its rows are worked out; and the rows from their ends.
use Rattle.std.specs.Prelude.{List, [], get_or}
use Rattle.plane.specs.declared.Vec2.{Vec2}
use Rattle.sketch.specs.Involved.{line_at, lines_named}
use Rattle.sketch.specs.declared.Equation.{Equation}
use Rattle.sketch.specs.declared.Line.{Line}
use Rattle.sketch.specs.declared.LineNo.{LineNo}
use Rattle.sketch.specs.declared.PointNo.{PointNo}
use Rattle.rows.specs.Entries.{Row}
use Rattle.rows.specs.Kinds.{
  coincident_of,
  level_kind_of,
  parallel_of,
  perpendicular_of,
  collinear_of,
  equal_of,
  distance_of,
  axis_distance_of,
  length_of,
  point_line_of,
  arc_ends_of,
  radius_kind_of,
  line_circle_of,
  circle_circle_of,
  line_arc_at_of,
  arc_arc_at_of,
  midpoint_of,
  arc_midpoint_of,
  symmetric_of,
  equal_radius_of,
}
use Rattle.rows.specs.declared.Ends.{Ends}
use Rattle.rows.specs.declared.LineNos.{LineNos}

-- ---- the numbers of an equation's lines: a kind with one line has it first, and line 0 stands where no line is named

abbrev pub both_of : LineNo → LineNo → LineNos
both_of i j = record { first = i; second = j }

abbrev pub only_of : LineNo → LineNos
only_of l = both_of l (record { 0 = 0 })

abbrev pub neither_of : LineNos
neither_of = only_of (record { 0 = 0 })

abbrev pub line_nos_of : Equation → LineNos
line_nos_of e = both_of (get_or (lines_named e) 0 (record { 0 = 0 })) (get_or (lines_named e) 1 (record { 0 = 0 }))

-- ---- and their ends, as the build has them

abbrev pub ends_of : List Line → Equation → Ends
ends_of ls e = record { first = line_at ls (line_nos_of e).first; second = line_at ls (line_nos_of e).second }

-- ---- the rows, where the ends are given

module _ (ends : Ends) (at : PointNo → Vec2) where
  unfoldable pub rows_given : Equation → List Row
  rows_given (Equation.Coincident a b) = coincident_of at a b
  rows_given (Equation.Level a b axis) = level_kind_of at a b axis
  rows_given (Equation.Parallel i j) = parallel_of at ends.first ends.second
  rows_given (Equation.Perpendicular i j) = perpendicular_of at ends.first ends.second
  rows_given (Equation.Collinear i j) = collinear_of at ends.first ends.second
  rows_given (Equation.Equal i j) = equal_of at ends.first ends.second
  rows_given Equation.Held = []
  rows_given (Equation.Distance a b value) = distance_of at a b value
  rows_given (Equation.AxisDistance a b axis value side) = axis_distance_of at a b axis value side
  rows_given (Equation.Length l value) = length_of at ends.first value
  rows_given (Equation.PointLine p l value side) = point_line_of at p ends.first value side
  rows_given (Equation.ArcEnds c f t) = arc_ends_of at c f t
  rows_given (Equation.Radius c f value) = radius_kind_of at c f value
  rows_given (Equation.LineCircle l c rad side) = line_circle_of at ends.first c rad side
  rows_given (Equation.CircleCircle c₁ r₁ c₂ r₂ contact) = circle_circle_of at c₁ r₁ c₂ r₂ contact
  rows_given (Equation.LineArcAt l c p) = line_arc_at_of at ends.first c p
  rows_given (Equation.ArcArcAt c₁ c₂ p) = arc_arc_at_of at c₁ c₂ p
  rows_given (Equation.Midpoint p l) = midpoint_of at p ends.first
  rows_given (Equation.ArcMidpoint p c f t) = arc_midpoint_of at p c f t
  rows_given (Equation.Symmetric p q l) = symmetric_of at p q ends.first
  rows_given (Equation.EqualRadius c₁ f₁ c₂ f₂) = equal_radius_of at c₁ f₁ c₂ f₂
