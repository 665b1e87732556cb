-- A job as it is written (document 01, "The text"): point and line numbers as they stand there, and floats by the patterns of their
-- bits, since a NaN has many patterns and one value. A count is the length of its list.
use Rattle.std.specs.Prelude.{List, [], ◌∷◌, ℕ, ◌<◌, length}
use Rattle.sketch.specs.Kinds.{Sort, fields_of, measured_fields}
use Rattle.sketch.specs.declared.Gauge.{Gauge}
use Rattle.sketch.specs.declared.Kind.{Kind}

-- a whole number has at most five digits, and a float has 64 bits
abbrev pub Whole : ℕ → Type 0
Whole n = n < 100000

abbrev pub Pattern : ℕ → Type 0
Pattern b = b < 0x1_0000_0000_0000_0000

-- every one of a list
abbrev pub Each : {A : Type 0} → (A → Type 0) → List A → Type 0
Each P [] = Unit {0}
Each P (a ∷ l) = P a × Each P l

pub data Axis : Type 0 where
  axis_x axis_y : Axis

pub data Sign : Type 0 where
  plus minus : Sign

-- a radius by a point, or a plain one
pub data Radius : Type 0 where
  by_point plain : ℕ → Radius

pub data Touch : Type 0 where
  outside : Touch
  inside : Sign → Touch

-- What a field of each sort is written as.
abbrev pub Content : Sort → Type 0
Content Sort.Point = ℕ
Content Sort.Line = ℕ
Content Sort.Value = ℕ
Content Sort.Axis = Axis
Content Sort.Side = Sign
Content Sort.Radius = Radius
Content Sort.Contact = Touch

abbrev pub RadiusFits : Radius → Type 0
RadiusFits (by_point n) = Whole n
RadiusFits (plain b) = Pattern b

abbrev pub ContentFits : (f : Sort) → Content f → Type 0
ContentFits Sort.Point n = Whole n
ContentFits Sort.Line n = Whole n
ContentFits Sort.Value b = Pattern b
ContentFits Sort.Axis a = Unit {0}
ContentFits Sort.Side k = Unit {0}
ContentFits Sort.Radius r = RadiusFits r
ContentFits Sort.Contact o = Unit {0}

abbrev pub Contents : List Sort → Type 0
Contents [] = Unit {0}
Contents (f ∷ l) = Content f × Contents l

abbrev pub ContentsFit : (l : List Sort) → Contents l → Type 0
ContentsFit [] v = Unit {0}
ContentsFit (f ∷ l) v = ContentFits f v.0 × ContentsFit l v.1

-- What the lines of the items hold. The fields of each kind, and of each measure, are those of the one table (crates/sketch/specs/Kinds.antt).
pub record Place : Type 0 where
  pub x : ℕ
  pub y : ℕ

pub data Standing : Type 0 where
  free kept : Standing
  placed : Place → Standing

pub record PointItem : Type 0 where
  pub start : Place
  pub standing : Standing

pub record LineItem : Type 0 where
  pub from : ℕ
  pub to : ℕ

pub record EquationItem : Type 0 where
  pub kind : Kind
  pub contents : Contents (fields_of kind)

pub record MeasureItem : Type 0 where
  pub gauge : Gauge
  pub contents : Contents (measured_fields gauge)

pub record Job : Type 0 where
  pub centre : Place
  pub size : ℕ
  pub points : List PointItem
  pub lines : List LineItem
  pub equations : List EquationItem
  pub measures : List MeasureItem

-- Whether every number and every pattern is one that can be written.
abbrev pub PlaceFits : Place → Type 0
PlaceFits p = Pattern p.x × Pattern p.y

abbrev pub StandingFits : Standing → Type 0
StandingFits free = Unit {0}
StandingFits kept = Unit {0}
StandingFits (placed p) = PlaceFits p

abbrev pub PointFits : PointItem → Type 0
PointFits p = PlaceFits p.start × StandingFits p.standing

abbrev pub LineFits : LineItem → Type 0
LineFits l = Whole l.from × Whole l.to

abbrev pub EquationFits : EquationItem → Type 0
EquationFits e = ContentsFit (fields_of e.kind) e.contents

abbrev pub MeasureFits : MeasureItem → Type 0
MeasureFits m = ContentsFit (measured_fields m.gauge) m.contents

-- the four counts
pub record Counts : Type 0 where
  pub points : ℕ
  pub lines : ℕ
  pub equations : ℕ
  pub measures : ℕ

abbrev pub counts_of : Job → Counts
counts_of j = record { points = length j.points; lines = length j.lines; equations = length j.equations; measures = length j.measures }

abbrev pub CountsFit : Counts → Type 0
CountsFit n = Whole n.points × Whole n.lines × Whole n.equations × Whole n.measures

pub record Writable (j : Job) : Type 0 where
  pub centre : PlaceFits j.centre
  pub size : Pattern j.size
  pub points : Each PointFits j.points
  pub lines : Each LineFits j.lines
  pub equations : Each EquationFits j.equations
  pub measures : Each MeasureFits j.measures
  pub counts : CountsFit (counts_of j)
