-- What the definition computes for two distances along an axis, from the point (1, 5) to the point (4, 7), in a build of size 2
-- around (1, 1): 3 along x, and −2 along y where the second point was drawn on the other side. Assumes nothing.
use Rattle.std.specs.Prelude.{ℕ, [], ◌∷◌, ◌≡◌, refl, Float}
use Rattle.std.specs.Float.{binary64}
use Rattle.std.specs.Float.Ieee.{of_bits, add, sub, mul, div, neg}
use Rattle.floats.specs.Ops.{one, one⁻, two}
use Rattle.loops.specs.Turns.{turns, up_to}
use Rattle.plate.specs.Scale.{scale_at, all_scaled_of, self_at}
use Rattle.rows.specs.Kinds.{rows_of_equation}
use Rattle.rows.specs.Located.{at_of}
use Rattle.sketch.specs.Blank.{blank_point, sample}
use Rattle.sketch.specs.declared.Build.{Build}
use Rattle.sketch.specs.declared.Measure.{Measure}
use Rattle.sketch.specs.declared.Measured.{Measured}
use Rattle.measures.specs.Gauges.{gauge_of, gauged_of, measured_in}

abbrev along : ℕ → Float → Measured
along axis side = record { measure = Measure.AxisDistance (record { 0 = 0 }) (record { 0 = 1 }) axis side }

abbrev build : Build
build = sample (record { x = one; y = one }) two (blank_point ∷ blank_point ∷ []) [] [] (along 0 one ∷ along 1 one⁻ ∷ [])

abbrev 3·0 : Float
3·0 = of_bits binary64 0x4008_0000_0000_0000

abbrev 4·0 : Float
4·0 = of_bits binary64 0x4010_0000_0000_0000

abbrev 5·0 : Float
5·0 = of_bits binary64 0x4014_0000_0000_0000

abbrev 7·0 : Float
7·0 = of_bits binary64 0x401c_0000_0000_0000

-- −2.0
abbrev 2·0⁻ : Float
2·0⁻ = of_bits binary64 0xc000_0000_0000_0000

-- the third place of the output is no measure's
pub along-axes : (z : Float) → measured_in build (one ∷ 5·0 ∷ 4·0 ∷ 7·0 ∷ []) (z ∷ z ∷ z ∷ []) ≡ 3·0 ∷ 2·0⁻ ∷ z ∷ []
unfolding turns up_to rows_of_equation at_of gauge_of gauged_of measured_in scale_at all_scaled_of self_at of_bits add sub mul div neg
along-axes z = refl
