-- Document 01, "Both sides of the line": its cases (a) to (l), proved of the definitions as one table, `both-sides`. Each room has its
-- cases worked beside its definitions; here they stand together, in 01's order. Assumes nothing.
use Rattle.std.specs.Prelude.{ℕ, zero, suc, false, List, [], ◌∷◌, ◌≡◌, refl, Float, replicate}
use Rattle.std.specs.Float.{nan, inf, binary64}
use Rattle.std.specs.Float.Ieee.{of_bits}
use Rattle.floats.specs.Largest.{larger_abs, max_abs_of}
use Rattle.floats.specs.Ops.{zero⁺, zero⁻, one, two}
use Rattle.groups.specs.Chains.{points_in, equations_in}
use Rattle.groups.specs.Examples as groups-worked
use Rattle.groups.specs.Examples.{Group}
use Rattle.groups.specs.Listed.{grouping_of}
use Rattle.groups.specs.declared.Grouping.{Grouping}
use Rattle.level.specs.Examples as level-worked
use Rattle.level.specs.Level.{level_of}
use Rattle.loops.specs.Turns.{go}
use Rattle.members.specs.Examples.{Unmoved, unmoved}
use Rattle.root.specs.Examples.{root-two, root-least, root-minus-zero}
use Rattle.root.specs.Root.{sqrt_of}
use Rattle.sketch.specs.Blank.{origin, point_in, blank_point, blank_active, sample}
use Rattle.sketch.specs.declared.Active.{Active}
use Rattle.sketch.specs.declared.Equation.{Equation}
use Rattle.sketch.specs.declared.State.{State}
use Rattle.sketch.specs.declared.State.TheVariants.{Free, Kept}
use Rattle.solver.specs.Examples.{worked}
use Rattle.solver.specs.Steps.{solution_of}

abbrev coincident : ℕ → ℕ → Active
coincident p q = record { equation = Equation.Coincident (record { 0 = p }) (record { 0 = q }) }

abbrev distance : ℕ → ℕ → Active
distance p q = record { equation = Equation.Distance (record { 0 = p }) (record { 0 = q }) zero⁺ }

-- y is axis 1
abbrev level_y : ℕ → ℕ → Active
level_y p q = record { equation = Equation.Level (record { 0 = p }) (record { 0 = q }) 1 }

-- its points and its equations
abbrev group : List ℕ → List ℕ → Group
group ps es = record { points = ps; constraints = es }

-- the groups, from group j on, of which n are left
abbrev groups_from : Grouping → ℕ → ℕ → List Group
groups_from g j zero = []
groups_from g j (suc n) = group (points_in g j) (equations_in g j) ∷ groups_from g (suc j) n

-- of a build of five free points
abbrev groups_with : List Active → List Group
groups_with es = let g = grouping_of (sample origin one (replicate 5 blank_point) [] es []) in groups_from g 0 g.count

-- of the points 0, 1 and 2 in these states, with y level (0, 1) and (1, 2)
abbrev levelled : State → State → State → List Float → List Float
levelled s t u points = level_of (sample origin one (point_in s ∷ point_in t ∷ point_in u ∷ []) [] (level_y 0 1 ∷ level_y 1 2 ∷ []) []) points

abbrev 3·0 : Float
3·0 = of_bits binary64 0x4008_0000_0000_0000

abbrev 4·0 : Float
4·0 = of_bits binary64 0x4010_0000_0000_0000

abbrev 5·0 : Float
5·0 = of_bits binary64 0x4014_0000_0000_0000

abbrev 7·0 : Float
7·0 = of_bits binary64 0x401c_0000_0000_0000

-- ---- the table

pub record BothSides : Type 0 where
  -- (a) coincident(3,1), coincident(4,3) of 5 points: one group 1,3,4
  pub a : groups_with (coincident 3 1 ∷ coincident 4 3 ∷ []) ≡ group (1 ∷ 3 ∷ 4 ∷ []) (0 ∷ 1 ∷ []) ∷ []
  -- (b) coincident(4,3), coincident(0,2): group 0,2 with equation 1, then 3,4 with equation 0
  pub b : groups_with (coincident 4 3 ∷ coincident 0 2 ∷ []) ≡ group (0 ∷ 2 ∷ []) (1 ∷ []) ∷ group (3 ∷ 4 ∷ []) (0 ∷ []) ∷ []
  -- (c) Held only: no group
  pub c : groups_with (blank_active ∷ []) ≡ []
  -- (d) distance(2,2): group 2
  pub d : groups_with (distance 2 2 ∷ []) ≡ group (2 ∷ []) (0 ∷ []) ∷ []
  -- (e) level y (0,1),(1,2), point 2 fixed at 5: all 5
  pub e : (x₀ y₀ x₁ y₁ x₂ : Float)
      → levelled Free Free Kept (x₀ ∷ y₀ ∷ x₁ ∷ y₁ ∷ x₂ ∷ 5·0 ∷ []) ≡ x₀ ∷ 5·0 ∷ x₁ ∷ 5·0 ∷ x₂ ∷ 5·0 ∷ []
  -- (f) same, point 1 fixed at 3, point 2 at 7: 3, 3, 7
  pub f : (x₀ y₀ x₁ x₂ : Float)
      → levelled Free Kept Kept (x₀ ∷ y₀ ∷ x₁ ∷ 3·0 ∷ x₂ ∷ 7·0 ∷ []) ≡ x₀ ∷ 3·0 ∷ x₁ ∷ 3·0 ∷ x₂ ∷ 7·0 ∷ []
  -- (g) root of 2 is 3ff6a09e667f3bcd
  pub g : sqrt_of two ≡ of_bits binary64 0x3ff6_a09e_667f_3bcd
  -- (h) root of the least subnormal is 1e60000000000000
  pub h : sqrt_of (of_bits binary64 1) ≡ of_bits binary64 0x1e60_0000_0000_0000
  -- (i) root of −0.0 is −0.0
  pub i : sqrt_of zero⁻ ≡ zero⁻
  -- (j) largest of no residuals is +0.0, of one NaN infinity
  pub j : (max_abs_of [] ≡ zero⁺) × (max_abs_of (nan ∷ []) ≡ inf false)
  -- (k) [[0,1],[1,0]] with 3,4 gives 4,3
  pub k : solution_of 2 (zero⁺ ∷ one ∷ one ∷ zero⁺ ∷ []) (3·0 ∷ 4·0 ∷ []) ≡ go (4·0 ∷ 3·0 ∷ [])
  -- (l) unmoved start −0.0 gives +0.0, of a free point and of a kept one
  pub l : Unmoved Free × Unmoved Kept

largest : (max_abs_of [] ≡ zero⁺) × (max_abs_of (nan ∷ []) ≡ inf false)
unfolding max_abs_of larger_abs
largest = (refl, refl)

pub both-sides : BothSides
both-sides = record {
  a = (groups-worked.table).0;
  b = (groups-worked.table).1;
  c = (groups-worked.table).2;
  d = (groups-worked.table).3;
  e = λ x₀ y₀ x₁ y₁ x₂. (level-worked.table x₀ y₀ x₁ y₁ x₂).0;
  f = λ x₀ y₀ x₁ x₂. (level-worked.table x₀ y₀ x₁ nan x₂).1;
  g = root-two;
  h = root-least;
  i = root-minus-zero;
  j = largest;
  k = worked.0;
  l = unmoved;
}
