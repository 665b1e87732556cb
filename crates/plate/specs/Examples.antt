-- What the definition computes in a build of size 2 around (1, 1): of an equation with no row, of one whose second row is the larger, and
-- of a line between two points in one place. Assumes nothing.
use Rattle.std.specs.Prelude.{false, ◌≡◌, refl, Float}
use mathlib.Core.List.{List, [], ◌∷◌, flat_map}
use Rattle.std.specs.Float.{inf, binary64}
use Rattle.std.specs.Float.Ieee.{of_bits, add, sub, mul, div, neg, lt, is_nan}
use Rattle.floats.specs.Largest.{larger_abs, max_abs_of}
use Rattle.floats.specs.Magnitude.{max_of}
use Rattle.floats.specs.Ops.{zero⁺, one, two}
use Rattle.loops.specs.Turns.{turns, up_to}
use Rattle.plane.specs.Vectors.{norm_of, unit_from_of}
use Rattle.root.specs.Root.{sqrt_of}
use Rattle.rows.specs.Kinds.{rows_of_equation}
use Rattle.rows.specs.Located.{at_of}
use Rattle.sketch.specs.Blank.{blank_point, sample}
use Rattle.sketch.specs.declared.Build.{Build}
use Rattle.sketch.specs.declared.Equation.{Equation}
use Rattle.plate.specs.Scale.{scale_at, all_scaled_of, self_at}
use Rattle.plate.specs.Worst.{residuals_of, worst_of}

-- two points, and the line between them
abbrev build : Equation → Build
build e =
    sample (record { x = one; y = one }) two (blank_point ∷ blank_point ∷ []) (record { from = record { 0 = 0 }; to = record { 0 = 1 } } ∷ [])
    (record { equation = e } ∷ []) []

abbrev 5·0 : Float
5·0 = of_bits binary64 0x4014_0000_0000_0000

abbrev 9·0 : Float
9·0 = of_bits binary64 0x4022_0000_0000_0000

pub no_row : (points : List Float) → worst_of (build Equation.Held) points ≡ zero⁺
unfolding worst_of residuals_of max_abs_of flat_map rows_of_equation
no_row points = refl

-- (1, 5) and (2, 9) lie half a unit apart along x and two along y
pub second-row : worst_of (build (Equation.Coincident (record { 0 = 0 }) (record { 0 = 1 }))) (one ∷ 5·0 ∷ two ∷ 9·0 ∷ []) ≡ two
unfolding turns up_to flat_map residuals_of worst_of max_abs_of larger_abs max_of rows_of_equation at_of scale_at all_scaled_of self_at of_bits add sub mul div neg lt is_nan
second-row = refl

-- the line has no direction, so whether it is parallel to itself is not a number
pub not-finite : worst_of (build (Equation.Parallel (record { 0 = 0 }) (record { 0 = 0 }))) (one ∷ one ∷ one ∷ one ∷ []) ≡ inf false
unfolding turns up_to flat_map residuals_of worst_of max_abs_of larger_abs max_of rows_of_equation unit_from_of norm_of sqrt_of at_of scale_at all_scaled_of self_at of_bits add sub mul div neg lt is_nan
not-finite = refl
