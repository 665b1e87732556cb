-- What the definition computes for document 01's (e) and (f), two rows of one table: three points with their y level, (0, 1) and
-- (1, 2), whatever else their coordinates were. Assumes nothing.
use Rattle.std.specs.Prelude.{ℕ, [], ◌∷◌, ◌≡◌, refl, Float}
use Rattle.std.specs.Float.{binary64}
use Rattle.std.specs.Float.Ieee.{of_bits}
use Rattle.floats.specs.Ops.{one}
use Rattle.loops.specs.Turns.{turns, up_to, whiles, while_to}
use Rattle.sketch.specs.Blank.{origin, point_in, sample}
use Rattle.sketch.specs.declared.Active.{Active}
use Rattle.sketch.specs.declared.Build.{Build}
use Rattle.sketch.specs.declared.Equation.{Equation}
use Rattle.sketch.specs.declared.State.{State}
use Rattle.sketch.specs.declared.State.TheVariants.{Free, Kept}
use Rattle.level.specs.Fixed.{fixed_of}
use Rattle.level.specs.Level.{join_equation, joined, level_point, level_points, level_axis, level_of}
use Rattle.level.specs.Parents.{halved, find_of, a_wins, join_to, self_at}

-- y is axis 1
abbrev level_y : ℕ → ℕ → Active
level_y a b = record { equation = Equation.Level (record { 0 = a }) (record { 0 = b }) 1 }

-- the points 0, 1 and 2 in these states
abbrev three : State → State → State → Build
three s t u = sample origin one (point_in s ∷ point_in t ∷ point_in u ∷ []) [] (level_y 0 1 ∷ level_y 1 2 ∷ []) []

abbrev 3·0 : Float
3·0 = of_bits binary64 0x4008_0000_0000_0000

abbrev 5·0 : Float
5·0 = of_bits binary64 0x4014_0000_0000_0000

abbrev 7·0 : Float
7·0 = of_bits binary64 0x401c_0000_0000_0000

module _ (x₀ y₀ x₁ y₁ x₂ : Float) where
  pub table :
      (level_of (three Free Free Kept) (x₀ ∷ y₀ ∷ x₁ ∷ y₁ ∷ x₂ ∷ 5·0 ∷ []) ≡ x₀ ∷ 5·0 ∷ x₁ ∷ 5·0 ∷ x₂ ∷ 5·0 ∷ [])
      × (level_of (three Free Kept Kept) (x₀ ∷ y₀ ∷ x₁ ∷ 3·0 ∷ x₂ ∷ 7·0 ∷ []) ≡ x₀ ∷ 3·0 ∷ x₁ ∷ 3·0 ∷ x₂ ∷ 7·0 ∷ [])
  unfolding turns up_to whiles while_to fixed_of join_equation joined level_point level_points level_axis level_of halved find_of a_wins join_to self_at
  table = (refl, refl)
