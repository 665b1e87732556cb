-- `shapes-are-whole`: an equation, and a measure, is made again from its shape, so the shape leaves nothing out. `fields-agree`: what is made
-- of a kind and of fields of its sorts has that shape. Assumes nothing.
use mathlib.Core.List.{List, [], ◌∷◌}
use mathlib.Core.Path.{◌≡◌, refl, sym, ap, ◌∙◌}
use Prim.Native.Nat.{ℕ}
use lib.Ieee.{Float, nan}
use Rattle.sketch.specs.Fields.{Field, point, line, value, size, axis, side, radius, contact, shape_of, measure_shape, ShapesAreWhole}
use Rattle.sketch.specs.Kinds.{Sort, fields_of, measured_fields}
use Rattle.sketch.specs.Made.{point_no, line_no, Stands, Row, row_fields, equation_of, measure_of, FieldsAgree}
use Rattle.sketch.specs.declared.Contact.{Contact}
use Rattle.sketch.specs.declared.Equation.{Equation}
use Rattle.sketch.specs.declared.Gauge.{Gauge}
use Rattle.sketch.specs.declared.Kind.{Kind}
use Rattle.sketch.specs.declared.LineNo.{LineNo}
use Rattle.sketch.specs.declared.Measure.{Measure}
use Rattle.sketch.specs.declared.PointNo.{PointNo}
use Rattle.sketch.specs.declared.Rad.{Rad}

-- what a field holds, beside what it does not
record Parts : Type 0 where
  pub a_point : PointNo
  pub a_line : LineNo
  pub number : Float
  pub an_axis : ℕ
  pub a_radius : Rad
  pub a_contact : Contact

abbrev none : Parts
none = record { a_point = point_no 0; a_line = line_no 0; number = nan; an_axis = 0; a_radius = Rad.Value nan; a_contact = Contact.Outside }

abbrev parts_of : Field → Parts
parts_of (point p) = record none { a_point = p }
parts_of (line l) = record none { a_line = l }
parts_of (value v) = record none { number = v }
parts_of (size v) = record none { number = v }
parts_of (axis a) = record none { an_axis = a }
parts_of (side s) = record none { number = s }
parts_of (radius r) = record none { a_radius = r }
parts_of (contact k) = record none { a_contact = k }

abbrev stands : (f : Sort) → Parts → Stands f
stands Sort.Point p = p.a_point
stands Sort.Line p = p.a_line
stands Sort.Value p = p.number
stands Sort.Axis p = p.an_axis
stands Sort.Side p = p.number
stands Sort.Radius p = p.a_radius
stands Sort.Contact p = p.a_contact

abbrev row_of : (l : List Sort) → List Field → Row l
row_of [] m = tt
row_of (f ∷ l) [] = (stands f none, row_of l [])
row_of (f ∷ l) (x ∷ m) = (stands f (parts_of x), row_of l m)

abbrev from_shape : Kind × List Field → Equation
from_shape r = equation_of r.0 (row_of (fields_of r.0) r.1)

abbrev from_measured : Gauge × List Field → Measure
from_measured r = measure_of r.0 (row_of (measured_fields r.0) r.1)

again : (e : Equation) → from_shape (shape_of e) ≡ e
again (Equation.Coincident a b) = refl
again (Equation.Level a b x) = refl
again (Equation.Parallel i j) = refl
again (Equation.Perpendicular i j) = refl
again (Equation.Collinear i j) = refl
again (Equation.Equal i j) = refl
again Equation.Held = refl
again (Equation.Distance a b v) = refl
again (Equation.AxisDistance a b x v s) = refl
again (Equation.Length l v) = refl
again (Equation.PointLine p l v s) = refl
again (Equation.ArcEnds c f t) = refl
again (Equation.Radius c f v) = refl
again (Equation.LineCircle l c r s) = refl
again (Equation.CircleCircle c₁ r₁ c₂ r₂ k) = refl
again (Equation.LineArcAt l c p) = refl
again (Equation.ArcArcAt c₁ c₂ p) = refl
again (Equation.Midpoint p l) = refl
again (Equation.ArcMidpoint p c f t) = refl
again (Equation.Symmetric p q l) = refl
again (Equation.EqualRadius c₁ f₁ c₂ f₂) = refl

gauged-again : (d : Measure) → from_measured (measure_shape d) ≡ d
gauged-again (Measure.Distance a b) = refl
gauged-again (Measure.AxisDistance a b x s) = refl
gauged-again (Measure.Length l) = refl
gauged-again (Measure.PointLine p l s) = refl
gauged-again (Measure.Radius c f) = refl

pub shapes-are-whole : ShapesAreWhole
shapes-are-whole = (
  λ e f h. sym (again e) ∙ ap from_shape h ∙ again f,
  λ d f h. sym (gauged-again d) ∙ ap from_measured h ∙ gauged-again f,
)

-- `fields-agree`: kind by kind
kind-agrees : (k : Kind) (m : Row (fields_of k)) → shape_of (equation_of k m) ≡ (k, row_fields (fields_of k) m)
kind-agrees Kind.Coincident m = refl
kind-agrees Kind.Level m = refl
kind-agrees Kind.Parallel m = refl
kind-agrees Kind.Perpendicular m = refl
kind-agrees Kind.Collinear m = refl
kind-agrees Kind.Equal m = refl
kind-agrees Kind.Held m = refl
kind-agrees Kind.Distance m = refl
kind-agrees Kind.AxisDistance m = refl
kind-agrees Kind.Length m = refl
kind-agrees Kind.PointLine m = refl
kind-agrees Kind.ArcEnds m = refl
kind-agrees Kind.Radius m = refl
kind-agrees Kind.LineCircle m = refl
kind-agrees Kind.CircleCircle m = refl
kind-agrees Kind.LineArcAt m = refl
kind-agrees Kind.ArcArcAt m = refl
kind-agrees Kind.Midpoint m = refl
kind-agrees Kind.ArcMidpoint m = refl
kind-agrees Kind.Symmetric m = refl
kind-agrees Kind.EqualRadius m = refl

gauge-agrees : (g : Gauge) (m : Row (measured_fields g)) → measure_shape (measure_of g m) ≡ (g, row_fields (measured_fields g) m)
gauge-agrees Gauge.Distance m = refl
gauge-agrees Gauge.AxisDistance m = refl
gauge-agrees Gauge.Length m = refl
gauge-agrees Gauge.PointLine m = refl
gauge-agrees Gauge.Radius m = refl

pub fields-agree : FieldsAgree
fields-agree = record { equations = kind-agrees; measures = gauge-agrees }
