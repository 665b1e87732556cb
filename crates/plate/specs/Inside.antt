-- What the promises of the private functions are said by.
use Rattle.std.specs.Prelude.{Float, List}
use Rattle.floats.specs.Largest.{larger_abs}
use Rattle.plane.specs.declared.Vec2.{Vec2}
use Rattle.rows.specs.Entries.{values_of}
use Rattle.rows.specs.Kinds.{rows_of_equation}
use Rattle.rows.specs.declared.answer.Values.{Values}
use Rattle.sketch.specs.declared.Active.{Active}
use Rattle.sketch.specs.declared.Line.{Line}
use Rattle.sketch.specs.declared.PointNo.{PointNo}

-- the larger of m and the magnitudes of an equation's residuals, of which there are none, one or two
abbrev pub larger_held : Float → Values → Float
larger_held m Values.None = m
larger_held m (Values.One v) = larger_abs m v
larger_held m (Values.Two v w) = larger_abs (larger_abs m v) w

abbrev pub larger_with : List Line → (PointNo → Vec2) → Float → Active → Float
larger_with ls at m a = larger_held m (values_of (rows_of_equation ls at a.equation))
