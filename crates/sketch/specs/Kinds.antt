-- The kinds of equations and of measures, and the sorts of each one's fields. A text's form and its reader go by this table.
use Rattle.std.specs.Prelude.{List, [], ◌∷◌}
use Rattle.sketch.specs.declared.Gauge.{Gauge}
use Rattle.sketch.specs.declared.Kind.{Kind}

-- the sorts of fields
pub data Sort : Type 0 where
  Point Line Value Axis Side Radius Contact : Sort

-- the fields of each kind, in the Rust's order (equations.rs, `Eq`)
abbrev pub fields_of : Kind → List Sort
fields_of Kind.Coincident = Point ∷ Point ∷ []
fields_of Kind.Level = Point ∷ Point ∷ Axis ∷ []
fields_of Kind.Parallel = Line ∷ Line ∷ []
fields_of Kind.Perpendicular = Line ∷ Line ∷ []
fields_of Kind.Collinear = Line ∷ Line ∷ []
fields_of Kind.Equal = Line ∷ Line ∷ []
fields_of Kind.Held = []
fields_of Kind.Distance = Point ∷ Point ∷ Value ∷ []
fields_of Kind.AxisDistance = Point ∷ Point ∷ Axis ∷ Value ∷ Side ∷ []
fields_of Kind.Length = Line ∷ Value ∷ []
fields_of Kind.PointLine = Point ∷ Line ∷ Value ∷ Side ∷ []
fields_of Kind.ArcEnds = Point ∷ Point ∷ Point ∷ []
fields_of Kind.Radius = Point ∷ Point ∷ Value ∷ []
fields_of Kind.LineCircle = Line ∷ Point ∷ Radius ∷ Side ∷ []
fields_of Kind.CircleCircle = Point ∷ Radius ∷ Point ∷ Radius ∷ Contact ∷ []
fields_of Kind.LineArcAt = Line ∷ Point ∷ Point ∷ []
fields_of Kind.ArcArcAt = Point ∷ Point ∷ Point ∷ []
fields_of Kind.Midpoint = Point ∷ Line ∷ []
fields_of Kind.ArcMidpoint = Point ∷ Point ∷ Point ∷ Point ∷ []
fields_of Kind.Symmetric = Point ∷ Point ∷ Line ∷ []
fields_of Kind.EqualRadius = Point ∷ Point ∷ Point ∷ Point ∷ []

abbrev pub kind_of : Gauge → Kind
kind_of Gauge.Distance = Kind.Distance
kind_of Gauge.AxisDistance = Kind.AxisDistance
kind_of Gauge.Length = Kind.Length
kind_of Gauge.PointLine = Kind.PointLine
kind_of Gauge.Radius = Kind.Radius

-- measures omit the value
abbrev pub omitted : Sort → List Sort → List Sort
omitted Point l = Point ∷ l
omitted Line l = Line ∷ l
omitted Value l = l
omitted Axis l = Axis ∷ l
omitted Side l = Side ∷ l
omitted Radius l = Radius ∷ l
omitted Contact l = Contact ∷ l

abbrev pub valueless : List Sort → List Sort
valueless [] = []
valueless (f ∷ l) = omitted f (valueless l)

abbrev pub measured_fields : Gauge → List Sort
measured_fields g = valueless (fields_of (kind_of g))
