-- equations.rs, `measures`: the reference dimensions at given points.
use Rattle.std.specs.Prelude.{ℕ, List, map, Float, get_or}
use Rattle.floats.specs.Lists.{copied_of}
use Rattle.floats.specs.Ops.{◌⊗◌, zero⁺}
use Rattle.plate.specs.Scale.{places_in, coordinates_in}
use Rattle.rows.specs.Entries.{no_row}
use Rattle.rows.specs.Kinds.{rows_of_equation}
use Rattle.rows.specs.Located.{at_of}
use Rattle.sketch.specs.Parts.{measures_of}
use Rattle.sketch.specs.declared.Build.{Build}
use Rattle.sketch.specs.declared.Equation.{Equation}
use Rattle.sketch.specs.declared.Line.{Line}
use Rattle.sketch.specs.declared.Measure.{Measure}
use Rattle.sketch.specs.declared.Measured.{Measured}

-- "Each measure is its dimension's equation with the value 0."
abbrev pub equation_of : Measure → Equation
equation_of (Measure.Distance a b) = Equation.Distance a b zero⁺
equation_of (Measure.AxisDistance a b axis side) = Equation.AxisDistance a b axis zero⁺ side
equation_of (Measure.Length l) = Equation.Length l zero⁺
equation_of (Measure.PointLine p l side) = Equation.PointLine p l zero⁺ side
equation_of (Measure.Radius c f) = Equation.Radius c f zero⁺

-- r[0] * self.size, where r are the residuals at x
unfoldable pub gauge_of : List Line → List ℕ → List Float → Float → Measured → Float
gauge_of ls places x size m = (get_or (rows_of_equation ls (at_of places x) (equation_of m.measure)) 0 no_row).value ⊗ size

-- The measures of a build at its points, which stand where the room `plate` has them, each at (coordinate − centre) / size.
unfoldable pub gauged_of : Build → List Float → List Float
gauged_of b points = map (gauge_of b.lines (places_in b) (coordinates_in b points) b.size) (measures_of b)

-- they go to the head of out, as many as there is room for
unfoldable pub measured_in : Build → List Float → List Float → List Float
measured_in b points out = copied_of (gauged_of b points) out
