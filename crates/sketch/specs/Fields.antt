-- The fields of a build: a line for each kind of equation and of measure, its fields in the Rust's order (equations.rs, `Eq`). Whatever
-- looks at every number of a build, or at every point and line number, takes them from here.
use mathlib.Core.List.{List, [], ◌∷◌, ◌++◌, flat_map}
use Rattle.std.specs.Prelude.{◌≡◌, ℕ, Float}
use Rattle.plane.specs.declared.Vec2.{Vec2}
use Rattle.sketch.specs.Parts.{points_of, lines_of, equations_of, measures_of}
use Rattle.sketch.specs.declared.Build.{Build}
use Rattle.sketch.specs.declared.Contact.{Contact}
use Rattle.sketch.specs.declared.Equation.{Equation}
use Rattle.sketch.specs.declared.Gauge.{Gauge}
use Rattle.sketch.specs.declared.Kind.{Kind}
use Rattle.sketch.specs.declared.Line.{Line}
use Rattle.sketch.specs.declared.LineNo.{LineNo}
use Rattle.sketch.specs.declared.Measure.{Measure}
use Rattle.sketch.specs.declared.Point.{Point}
use Rattle.sketch.specs.declared.PointNo.{PointNo}
use Rattle.sketch.specs.declared.Rad.{Rad}
use Rattle.sketch.specs.declared.State.{State}
use Rattle.sketch.specs.declared.State.TheVariants.{Free, Kept, Placed}

-- what a field holds; a coordinate is a value, as the distance of an equation is
pub data Field : Type 0 where
  point : PointNo → Field
  line : LineNo → Field
  value : Float → Field
  size : Float → Field
  axis : ℕ → Field
  side : Float → Field
  radius : Rad → Field
  contact : Contact → Field

-- an equation's kind, and what stands in its fields
abbrev pub shape_of : Equation → Kind × List Field
shape_of (Equation.Coincident a b) = (Kind.Coincident, point a ∷ point b ∷ [])
shape_of (Equation.Level a b x) = (Kind.Level, point a ∷ point b ∷ axis x ∷ [])
shape_of (Equation.Parallel i j) = (Kind.Parallel, line i ∷ line j ∷ [])
shape_of (Equation.Perpendicular i j) = (Kind.Perpendicular, line i ∷ line j ∷ [])
shape_of (Equation.Collinear i j) = (Kind.Collinear, line i ∷ line j ∷ [])
shape_of (Equation.Equal i j) = (Kind.Equal, line i ∷ line j ∷ [])
shape_of Equation.Held = (Kind.Held, [])
shape_of (Equation.Distance a b v) = (Kind.Distance, point a ∷ point b ∷ value v ∷ [])
shape_of (Equation.AxisDistance a b x v s) = (Kind.AxisDistance, point a ∷ point b ∷ axis x ∷ value v ∷ side s ∷ [])
shape_of (Equation.Length l v) = (Kind.Length, line l ∷ value v ∷ [])
shape_of (Equation.PointLine p l v s) = (Kind.PointLine, point p ∷ line l ∷ value v ∷ side s ∷ [])
shape_of (Equation.ArcEnds c f t) = (Kind.ArcEnds, point c ∷ point f ∷ point t ∷ [])
shape_of (Equation.Radius c f v) = (Kind.Radius, point c ∷ point f ∷ value v ∷ [])
shape_of (Equation.LineCircle l c r s) = (Kind.LineCircle, line l ∷ point c ∷ radius r ∷ side s ∷ [])
shape_of (Equation.CircleCircle c₁ r₁ c₂ r₂ k) = (Kind.CircleCircle, point c₁ ∷ radius r₁ ∷ point c₂ ∷ radius r₂ ∷ contact k ∷ [])
shape_of (Equation.LineArcAt l c p) = (Kind.LineArcAt, line l ∷ point c ∷ point p ∷ [])
shape_of (Equation.ArcArcAt c₁ c₂ p) = (Kind.ArcArcAt, point c₁ ∷ point c₂ ∷ point p ∷ [])
shape_of (Equation.Midpoint p l) = (Kind.Midpoint, point p ∷ line l ∷ [])
shape_of (Equation.ArcMidpoint p c f t) = (Kind.ArcMidpoint, point p ∷ point c ∷ point f ∷ point t ∷ [])
shape_of (Equation.Symmetric p q l) = (Kind.Symmetric, point p ∷ point q ∷ line l ∷ [])
shape_of (Equation.EqualRadius c₁ f₁ c₂ f₂) = (Kind.EqualRadius, point c₁ ∷ point f₁ ∷ point c₂ ∷ point f₂ ∷ [])

-- measures have the fields of the equation of their name, but for its value
abbrev pub measure_shape : Measure → Gauge × List Field
measure_shape (Measure.Distance a b) = (Gauge.Distance, point a ∷ point b ∷ [])
measure_shape (Measure.AxisDistance a b x s) = (Gauge.AxisDistance, point a ∷ point b ∷ axis x ∷ side s ∷ [])
measure_shape (Measure.Length l) = (Gauge.Length, line l ∷ [])
measure_shape (Measure.PointLine p l s) = (Gauge.PointLine, point p ∷ line l ∷ side s ∷ [])
measure_shape (Measure.Radius c f) = (Gauge.Radius, point c ∷ point f ∷ [])

-- the fields of an item of each of a build's four lists
abbrev pub place_fields : Vec2 → List Field
place_fields p = value p.x ∷ value p.y ∷ []

abbrev pub state_fields : State → List Field
state_fields Free = []
state_fields Kept = []
state_fields (Placed p) = place_fields p

abbrev pub point_fields : Point → List Field
point_fields p = place_fields p.start ++ state_fields p.state

abbrev pub line_fields : Line → List Field
line_fields l = point l.from ∷ point l.to ∷ []

abbrev pub equation_fields : Equation → List Field
equation_fields e = (shape_of e).1

abbrev pub measure_fields : Measure → List Field
measure_fields d = (measure_shape d).1

-- every field of a build
abbrev pub build_fields : Build → List Field
build_fields b =
    place_fields b.centre
    ++ size b.size ∷ []
    ++ flat_map point_fields (points_of b)
    ++ flat_map line_fields (lines_of b)
    ++ flat_map (λ a. equation_fields a.equation) (equations_of b)
    ++ flat_map (λ a. measure_fields a.measure) (measures_of b)

-- no field is left out: two of one shape are the same (`shapes-are-whole`, proofs/Rebuilt.antt)
abbrev pub ShapesAreWhole : Type 0
ShapesAreWhole = ((e f : Equation) → shape_of e ≡ shape_of f → e ≡ f) × ((d f : Measure) → measure_shape d ≡ measure_shape f → d ≡ f)
