-- Measures: the name of a kind that is measured, and then its fields without the value.
use Rattle.std.specs.Prelude.{List, ℕ, Ok}
use Rattle.sketch.specs.Kinds.{measured_fields}
use Rattle.sketch.specs.Made.{measure_of}
use Rattle.sketch.specs.declared.Gauge.{Gauge}
use Rattle.sketch.specs.declared.Measure.{Measure}
use Rattle.spelling.specs.Places.{Read, ◌>>=◌}
use Rattle.phrases.specs.Fields.{row_at}
use Rattle.phrases.specs.Kinds.{gauge_at}

-- the fields of a kind that is measured; gauge by gauge, so that a proof goes by what it is
abbrev pub row_measure : Gauge → List ℕ → ℕ → Read Measure
row_measure g s at = do
  m ← row_at (measured_fields g) s at
  Ok (measure_of g m.0, m.1)

unfoldable pub gauged_at : Gauge → List ℕ → ℕ → Read Measure
gauged_at Gauge.Distance = row_measure Gauge.Distance
gauged_at Gauge.AxisDistance = row_measure Gauge.AxisDistance
gauged_at Gauge.Length = row_measure Gauge.Length
gauged_at Gauge.PointLine = row_measure Gauge.PointLine
gauged_at Gauge.Radius = row_measure Gauge.Radius

unfoldable pub measure_at : List ℕ → ℕ → Read Measure
measure_at s at = do
  g ← gauge_at s at
  gauged_at g.0 s g.1
