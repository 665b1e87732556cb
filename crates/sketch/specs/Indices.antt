-- Number 5 of document 01: every point and line number of a build is below its count, whether the line is used or not.
use Rattle.std.specs.Prelude.{Bool, true, false, ◌≡◌, ℕ, ltb}
use mathlib.Core.List.{Memᴰ}
use Rattle.loops.specs.Turns.{every}
use Rattle.sketch.specs.Fields.{Field, point, line, value, size, axis, side, radius, contact, line_fields, equation_fields, measure_fields, build_fields}
use Rattle.sketch.specs.declared.Active.{Active}
use Rattle.sketch.specs.declared.Build.{Build}
use Rattle.sketch.specs.declared.Equation.{Equation}
use Rattle.sketch.specs.declared.Line.{Line}
use Rattle.sketch.specs.declared.LineNo.{LineNo}
use Rattle.sketch.specs.declared.Measure.{Measure}
use Rattle.sketch.specs.declared.Measured.{Measured}
use Rattle.sketch.specs.declared.PointNo.{PointNo}
use Rattle.sketch.specs.declared.Rad.{Rad}

-- among n points, and among m lines
abbrev pub is_point : ℕ → PointNo → Bool
is_point n p = ltb p.0 n

abbrev pub is_line : ℕ → LineNo → Bool
is_line m l = ltb l.0 m

abbrev pub found_rad : ℕ → Rad → Bool
found_rad n (Rad.Point p) = is_point n p
found_rad n (Rad.Value v) = true

abbrev pub found_field : ℕ → ℕ → Field → Bool
found_field n m (point p) = is_point n p
found_field n m (line l) = is_line m l
found_field n m (value v) = true
found_field n m (size v) = true
found_field n m (axis a) = true
found_field n m (side s) = true
found_field n m (radius r) = found_rad n r
found_field n m (contact k) = true

-- among the build's points and lines
abbrev pub found_in : Build → Field → Bool
found_in b = found_field b.point_count b.line_count

-- everything that the build refers to is there
abbrev pub found_build : Build → Bool
found_build b = every (found_in b) (build_fields b)

-- something is not
abbrev pub SomeMissing : Build → Type 0
SomeMissing b = (f : Field) × Memᴰ f (build_fields b) × (found_in b f ≡ false)

-- the same of an item; a line names no line
abbrev pub found_line : ℕ → Line → Bool
found_line n l = every (found_field n 0) (line_fields l)

abbrev pub found_equation : ℕ → ℕ → Equation → Bool
found_equation n m e = every (found_field n m) (equation_fields e)

abbrev pub found_active : ℕ → ℕ → Active → Bool
found_active n m a = found_equation n m a.equation

abbrev pub found_measure : ℕ → ℕ → Measure → Bool
found_measure n m d = every (found_field n m) (measure_fields d)

abbrev pub found_measured : ℕ → ℕ → Measured → Bool
found_measured n m a = found_measure n m a.measure
