-- What stands past a count: blank items, as many as a build has places. Builds with little in them, which worked cases are about.
use Rattle.std.specs.Prelude.{ℕ, ◌-◌, List, [], ◌++◌, Float, length, replicate}
use Rattle.floats.specs.Ops.{zero⁺}
use Rattle.plane.specs.declared.Vec2.{Vec2}
use Rattle.sketch.specs.Involved.{no_line}
use Rattle.sketch.specs.declared.Active.{Active}
use Rattle.sketch.specs.declared.Build.{Build}
use Rattle.sketch.specs.declared.Equation.{Equation}
use Rattle.sketch.specs.declared.Line.{Line}
use Rattle.sketch.specs.declared.Measure.{Measure}
use Rattle.sketch.specs.declared.Measured.{Measured}
use Rattle.sketch.specs.declared.Point.{Point}
use Rattle.sketch.specs.declared.State.{State}

abbrev pub origin : Vec2
origin = record { x = zero⁺; y = zero⁺ }

-- drawn at the origin
abbrev pub point_in : State → Point
point_in s = record { start = origin; state = s }

abbrev pub blank_point : Point
blank_point = point_in State.Free

abbrev pub blank_active : Active
blank_active = record { equation = Equation.Held }

abbrev pub blank_measured : Measured
blank_measured = record { measure = Measure.Length (record { 0 = 0 }) }

-- n places: the items, and blanks after them
abbrev pub filled : {A : Type 0} → ℕ → A → List A → List A
filled n blank l = l ++ replicate (n - length l) blank

abbrev pub sample : Vec2 → Float → List Point → List Line → List Active → List Measured → Build
sample centre size ps ls es ms = record {
  centre = centre;
  size = size;
  points = filled 40 blank_point ps;
  point_count = length ps;
  lines = filled 40 no_line ls;
  line_count = length ls;
  equations = filled 40 blank_active es;
  equation_count = length es;
  measures = filled 20 blank_measured ms;
  measure_count = length ms;
}

-- a build with nothing in it
abbrev pub empty_build : Build
empty_build = sample origin zero⁺ [] [] [] []
