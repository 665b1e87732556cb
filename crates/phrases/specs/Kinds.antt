-- The kinds of equations by their names, the Rust's in small letters, in the order in which a reader tries them. "equalradius"
-- begins with "equal", so it is tried first. A measure has the name of its kind.
use Rattle.std.specs.Prelude.{List, [], ◌∷◌, ℕ}
use Rattle.sketch.specs.Kinds.{kind_of}
use Rattle.sketch.specs.declared.Gauge.{Gauge}
use Rattle.sketch.specs.declared.Kind.{Kind}
use Rattle.spelling.specs.Letters.{ascii}
use Rattle.spelling.specs.Places.{Read, named}

abbrev pub name_of : Kind → List ℕ
name_of Kind.Coincident = ascii "coincident"
name_of Kind.Level = ascii "level"
name_of Kind.Parallel = ascii "parallel"
name_of Kind.Perpendicular = ascii "perpendicular"
name_of Kind.Collinear = ascii "collinear"
name_of Kind.EqualRadius = ascii "equalradius"
name_of Kind.Equal = ascii "equal"
name_of Kind.Held = ascii "held"
name_of Kind.Distance = ascii "distance"
name_of Kind.AxisDistance = ascii "axisdistance"
name_of Kind.Length = ascii "length"
name_of Kind.PointLine = ascii "pointline"
name_of Kind.ArcEnds = ascii "arcends"
name_of Kind.Radius = ascii "radius"
name_of Kind.LineCircle = ascii "linecircle"
name_of Kind.CircleCircle = ascii "circlecircle"
name_of Kind.LineArcAt = ascii "linearcat"
name_of Kind.ArcArcAt = ascii "arcarcat"
name_of Kind.Midpoint = ascii "midpoint"
name_of Kind.ArcMidpoint = ascii "arcmidpoint"
name_of Kind.Symmetric = ascii "symmetric"

abbrev pub kinds : List Kind
kinds =
    Kind.Coincident ∷ Kind.Level ∷ Kind.Parallel ∷ Kind.Perpendicular ∷ Kind.Collinear ∷ Kind.EqualRadius ∷ Kind.Equal ∷ Kind.Held ∷ Kind.Distance ∷ Kind.AxisDistance ∷ Kind.Length ∷ Kind.PointLine ∷ Kind.ArcEnds ∷ Kind.Radius ∷ Kind.LineCircle ∷ Kind.CircleCircle ∷ Kind.LineArcAt ∷ Kind.ArcArcAt ∷ Kind.Midpoint ∷ Kind.ArcMidpoint ∷ Kind.Symmetric ∷ []

-- the kind whose name stands there
abbrev pub kind_at : List ℕ → ℕ → Read Kind
kind_at s at = named name_of s at kinds

abbrev pub gauge_name : Gauge → List ℕ
gauge_name g = name_of (kind_of g)

abbrev pub gauges : List Gauge
gauges = Gauge.Distance ∷ Gauge.AxisDistance ∷ Gauge.Length ∷ Gauge.PointLine ∷ Gauge.Radius ∷ []

abbrev pub gauge_at : List ℕ → ℕ → Read Gauge
gauge_at s at = named gauge_name s at gauges
