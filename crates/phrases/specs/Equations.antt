-- Equations: a kind's name, and then its fields by the table.
use Rattle.std.specs.Prelude.{List, ℕ, Ok}
use Rattle.sketch.specs.Kinds.{fields_of}
use Rattle.sketch.specs.Made.{equation_of}
use Rattle.sketch.specs.declared.Equation.{Equation}
use Rattle.sketch.specs.declared.Kind.{Kind}
use Rattle.spelling.specs.Places.{Read, ◌>>=◌}
use Rattle.phrases.specs.Fields.{row_at}
use Rattle.phrases.specs.Kinds.{kind_at}

-- the fields of a kind; kind by kind, so that a proof goes by what it is
abbrev pub row_equation : Kind → List ℕ → ℕ → Read Equation
row_equation k s at = do
  m ← row_at (fields_of k) s at
  Ok (equation_of k m.0, m.1)

unfoldable pub fields_at : Kind → List ℕ → ℕ → Read Equation
fields_at Kind.Coincident = row_equation Kind.Coincident
fields_at Kind.Level = row_equation Kind.Level
fields_at Kind.Parallel = row_equation Kind.Parallel
fields_at Kind.Perpendicular = row_equation Kind.Perpendicular
fields_at Kind.Collinear = row_equation Kind.Collinear
fields_at Kind.Equal = row_equation Kind.Equal
fields_at Kind.Held = row_equation Kind.Held
fields_at Kind.Distance = row_equation Kind.Distance
fields_at Kind.AxisDistance = row_equation Kind.AxisDistance
fields_at Kind.Length = row_equation Kind.Length
fields_at Kind.PointLine = row_equation Kind.PointLine
fields_at Kind.ArcEnds = row_equation Kind.ArcEnds
fields_at Kind.Radius = row_equation Kind.Radius
fields_at Kind.LineCircle = row_equation Kind.LineCircle
fields_at Kind.CircleCircle = row_equation Kind.CircleCircle
fields_at Kind.LineArcAt = row_equation Kind.LineArcAt
fields_at Kind.ArcArcAt = row_equation Kind.ArcArcAt
fields_at Kind.Midpoint = row_equation Kind.Midpoint
fields_at Kind.ArcMidpoint = row_equation Kind.ArcMidpoint
fields_at Kind.Symmetric = row_equation Kind.Symmetric
fields_at Kind.EqualRadius = row_equation Kind.EqualRadius

unfoldable pub equation_at : List ℕ → ℕ → Read Equation
equation_at s at = do
  k ← kind_at s at
  fields_at k.0 s k.1
