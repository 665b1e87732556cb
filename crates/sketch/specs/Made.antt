-- How an equation or a measure is made of its kind and of what stands in its fields.
use Rattle.std.specs.Prelude.{List, [], ◌∷◌, ◌≡◌, ℕ, Float}
use Rattle.sketch.specs.Fields.{Field, point, line, value, axis, side, radius, contact, shape_of, measure_shape}
use Rattle.sketch.specs.Kinds.{Sort, fields_of, measured_fields}
use Rattle.sketch.specs.declared.Contact.{Contact}
use Rattle.sketch.specs.declared.Equation.{Equation}
use Rattle.sketch.specs.declared.Gauge.{Gauge}
use Rattle.sketch.specs.declared.Kind.{Kind}
use Rattle.sketch.specs.declared.LineNo.{LineNo}
use Rattle.sketch.specs.declared.Measure.{Measure}
use Rattle.sketch.specs.declared.PointNo.{PointNo}
use Rattle.sketch.specs.declared.Rad.{Rad}

abbrev pub point_no : ℕ → PointNo
point_no n = record { 0 = n }

abbrev pub line_no : ℕ → LineNo
line_no n = record { 0 = n }

-- what a field of a sort may hold, and fields of the sorts of a row
abbrev pub Stands : Sort → Type 0
Stands Sort.Point = PointNo
Stands Sort.Line = LineNo
Stands Sort.Value = Float
Stands Sort.Axis = ℕ
Stands Sort.Side = Float
Stands Sort.Radius = Rad
Stands Sort.Contact = Contact

abbrev pub field_of : (f : Sort) → Stands f → Field
field_of Sort.Point p = point p
field_of Sort.Line l = line l
field_of Sort.Value v = value v
field_of Sort.Axis a = axis a
field_of Sort.Side s = side s
field_of Sort.Radius r = radius r
field_of Sort.Contact k = contact k

abbrev pub Row : List Sort → Type 0
Row [] = Unit {0}
Row (f ∷ l) = Stands f × Row l

abbrev pub row_fields : (l : List Sort) → Row l → List Field
row_fields [] m = []
row_fields (f ∷ l) m = field_of f m.0 ∷ row_fields l m.1

-- the Rust's constructor on the fields in their order
abbrev pub equation_of : (k : Kind) → Row (fields_of k) → Equation
equation_of Kind.Coincident m = Equation.Coincident m.0 m.1.0
equation_of Kind.Level m = Equation.Level m.0 m.1.0 m.1.1.0
equation_of Kind.Parallel m = Equation.Parallel m.0 m.1.0
equation_of Kind.Perpendicular m = Equation.Perpendicular m.0 m.1.0
equation_of Kind.Collinear m = Equation.Collinear m.0 m.1.0
equation_of Kind.Equal m = Equation.Equal m.0 m.1.0
equation_of Kind.Held m = Equation.Held
equation_of Kind.Distance m = Equation.Distance m.0 m.1.0 m.1.1.0
equation_of Kind.AxisDistance m = Equation.AxisDistance m.0 m.1.0 m.1.1.0 m.1.1.1.0 m.1.1.1.1.0
equation_of Kind.Length m = Equation.Length m.0 m.1.0
equation_of Kind.PointLine m = Equation.PointLine m.0 m.1.0 m.1.1.0 m.1.1.1.0
equation_of Kind.ArcEnds m = Equation.ArcEnds m.0 m.1.0 m.1.1.0
equation_of Kind.Radius m = Equation.Radius m.0 m.1.0 m.1.1.0
equation_of Kind.LineCircle m = Equation.LineCircle m.0 m.1.0 m.1.1.0 m.1.1.1.0
equation_of Kind.CircleCircle m = Equation.CircleCircle m.0 m.1.0 m.1.1.0 m.1.1.1.0 m.1.1.1.1.0
equation_of Kind.LineArcAt m = Equation.LineArcAt m.0 m.1.0 m.1.1.0
equation_of Kind.ArcArcAt m = Equation.ArcArcAt m.0 m.1.0 m.1.1.0
equation_of Kind.Midpoint m = Equation.Midpoint m.0 m.1.0
equation_of Kind.ArcMidpoint m = Equation.ArcMidpoint m.0 m.1.0 m.1.1.0 m.1.1.1.0
equation_of Kind.Symmetric m = Equation.Symmetric m.0 m.1.0 m.1.1.0
equation_of Kind.EqualRadius m = Equation.EqualRadius m.0 m.1.0 m.1.1.0 m.1.1.1.0

abbrev pub measure_of : (g : Gauge) → Row (measured_fields g) → Measure
measure_of Gauge.Distance m = Measure.Distance m.0 m.1.0
measure_of Gauge.AxisDistance m = Measure.AxisDistance m.0 m.1.0 m.1.1.0 m.1.1.1.0
measure_of Gauge.Length m = Measure.Length m.0
measure_of Gauge.PointLine m = Measure.PointLine m.0 m.1.0 m.1.1.0
measure_of Gauge.Radius m = Measure.Radius m.0 m.1.0

-- One table: what is made of a kind and of fields of its sorts has that kind and those fields, which are what the check before the fit
-- looks at. `fields-agree` (proofs/Rebuilt.antt).
pub record FieldsAgree : Type 0 where
  pub equations : (k : Kind) (m : Row (fields_of k)) → shape_of (equation_of k m) ≡ (k, row_fields (fields_of k) m)
  pub measures : (g : Gauge) (m : Row (measured_fields g)) → measure_shape (measure_of g m) ≡ (g, row_fields (measured_fields g) m)
