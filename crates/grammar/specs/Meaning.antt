-- The build that a job means: a pattern is the float with those bits, + and - are 1.0 and -1.0, and what stands past a count is blank.
use Rattle.std.specs.Prelude.{List, [], ◌∷◌, map, ℕ, Float, length}
use Rattle.std.specs.Float.{binary64}
use Rattle.std.specs.Float.Ieee.{of_bits, neg}
use Rattle.floats.specs.Ops.{one}
use Rattle.plane.specs.declared.Vec2.{Vec2}
use Rattle.sketch.specs.Blank.{blank_point, blank_active, blank_measured, filled}
use Rattle.sketch.specs.Involved.{no_line}
use Rattle.sketch.specs.Kinds.{Sort, fields_of, measured_fields}
use Rattle.sketch.specs.Made.{point_no, line_no, equation_of, measure_of, Stands, Row}
use Rattle.sketch.specs.declared.Active.{Active}
use Rattle.sketch.specs.declared.Build.{Build}
use Rattle.sketch.specs.declared.Contact.{Contact}
use Rattle.sketch.specs.declared.Line.{Line}
use Rattle.sketch.specs.declared.Measured.{Measured}
use Rattle.sketch.specs.declared.Point.{Point}
use Rattle.sketch.specs.declared.Rad.{Rad}
use Rattle.sketch.specs.declared.State.{State}
use Rattle.grammar.specs.Job.{Axis, axis_x, axis_y, Sign, plus, minus, Radius, by_point, plain, Touch, outside, inside, Content, Contents, Place, Standing, free, kept, placed, PointItem, LineItem, EquationItem, MeasureItem, Job}

abbrev pub float_of : ℕ → Float
float_of b = of_bits binary64 b

abbrev pub axis_of : Axis → ℕ
axis_of axis_x = 0
axis_of axis_y = 1

abbrev pub sign_of : Sign → Float
sign_of plus = one
sign_of minus = neg one

abbrev pub rad_of : Radius → Rad
rad_of (by_point n) = Rad.Point (point_no n)
rad_of (plain b) = Rad.Value (float_of b)

abbrev pub contact_of : Touch → Contact
contact_of outside = Contact.Outside
contact_of (inside k) = Contact.Inside (sign_of k)

-- what stands in the fields
abbrev pub meant_of : (f : Sort) → Content f → Stands f
meant_of Sort.Point n = point_no n
meant_of Sort.Line n = line_no n
meant_of Sort.Value b = float_of b
meant_of Sort.Axis a = axis_of a
meant_of Sort.Side k = sign_of k
meant_of Sort.Radius r = rad_of r
meant_of Sort.Contact o = contact_of o

abbrev pub means_of : (l : List Sort) → Contents l → Row l
means_of [] v = tt
means_of (f ∷ l) v = (meant_of f v.0, means_of l v.1)

abbrev pub vec_of : Place → Vec2
vec_of p = record { x = float_of p.x; y = float_of p.y }

abbrev pub state_of : Standing → State
state_of free = State.Free
state_of kept = State.Kept
state_of (placed p) = State.Placed (vec_of p)

abbrev pub point_of : PointItem → Point
point_of p = record { start = vec_of p.start; state = state_of p.standing }

abbrev pub line_of : LineItem → Line
line_of l = record { from = point_no l.from; to = point_no l.to }

abbrev pub active_of : EquationItem → Active
active_of e = record { equation = equation_of e.kind (means_of (fields_of e.kind) e.contents) }

abbrev pub measured_of : MeasureItem → Measured
measured_of m = record { measure = measure_of m.gauge (means_of (measured_fields m.gauge) m.contents) }

abbrev pub build_of : Job → Build
build_of j = record {
  centre = vec_of j.centre;
  size = float_of j.size;
  points = filled 40 blank_point (map point_of j.points);
  point_count = length j.points;
  lines = filled 40 no_line (map line_of j.lines);
  line_count = length j.lines;
  equations = filled 40 blank_active (map active_of j.equations);
  equation_count = length j.equations;
  measures = filled 20 blank_measured (map measured_of j.measures);
  measure_count = length j.measures;
}
