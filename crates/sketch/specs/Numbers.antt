-- Number 4 of document 01: the bounds of a build's numbers, inclusive. Sides and axes count among them.
use Rattle.std.specs.Prelude.{Bool, true, false, ◌&&◌, ◌||◌, ◌≡◌, ℕ, ltb, Float}
use mathlib.Core.List.{Memᴰ}
use Rattle.std.specs.Float.Ieee.{le, eq, neg}
use Rattle.floats.specs.Ops.{one, million, 1/1024}
use Rattle.loops.specs.Turns.{every}
use Rattle.plane.specs.declared.Vec2.{Vec2}
use Rattle.sketch.specs.Fields.{Field, point, line, value, size, axis, side, radius, contact, place_fields, state_fields, point_fields, equation_fields, measure_fields, build_fields}
use Rattle.sketch.specs.declared.Active.{Active}
use Rattle.sketch.specs.declared.Build.{Build}
use Rattle.sketch.specs.declared.Contact.{Contact}
use Rattle.sketch.specs.declared.Contact.TheVariants.{Outside, Inside}
use Rattle.sketch.specs.declared.Equation.{Equation}
use Rattle.sketch.specs.declared.Measure.{Measure}
use Rattle.sketch.specs.declared.Measured.{Measured}
use Rattle.sketch.specs.declared.Point.{Point}
use Rattle.sketch.specs.declared.Rad.{Rad}
use Rattle.sketch.specs.declared.State.{State}

-- of magnitude at most 1,000,000, so neither a NaN nor an infinity
abbrev pub bounded : Float → Bool
bounded x = le (neg million) x && le x million

abbrev pub sized : Float → Bool
sized x = le 1/1024 x && le x million

abbrev pub is_side : Float → Bool
is_side s = eq s one || eq s (neg one)

abbrev pub is_axis : ℕ → Bool
is_axis a = ltb a 2

abbrev pub bounded_rad : Rad → Bool
bounded_rad (Rad.Point p) = true
bounded_rad (Rad.Value v) = bounded v

abbrev pub bounded_contact : Contact → Bool
bounded_contact Outside = true
bounded_contact (Inside s) = is_side s

abbrev pub bounded_field : Field → Bool
bounded_field (point p) = true
bounded_field (line l) = true
bounded_field (value v) = bounded v
bounded_field (size v) = sized v
bounded_field (axis a) = is_axis a
bounded_field (side s) = is_side s
bounded_field (radius r) = bounded_rad r
bounded_field (contact k) = bounded_contact k

-- every number of the build is finite and within its bound
abbrev pub bounded_build : Build → Bool
bounded_build b = every bounded_field (build_fields b)

-- one is not
abbrev pub SomeOut : Build → Type 0
SomeOut b = (f : Field) × Memᴰ f (build_fields b) × (bounded_field f ≡ false)

-- the same of an item
abbrev pub bounded_vec : Vec2 → Bool
bounded_vec p = every bounded_field (place_fields p)

abbrev pub bounded_state : State → Bool
bounded_state s = every bounded_field (state_fields s)

abbrev pub bounded_point : Point → Bool
bounded_point p = every bounded_field (point_fields p)

abbrev pub bounded_equation : Equation → Bool
bounded_equation e = every bounded_field (equation_fields e)

abbrev pub bounded_active : Active → Bool
bounded_active a = bounded_equation a.equation

abbrev pub bounded_measure : Measure → Bool
bounded_measure d = every bounded_field (measure_fields d)

abbrev pub bounded_measured : Measured → Bool
bounded_measured a = bounded_measure a.measure
