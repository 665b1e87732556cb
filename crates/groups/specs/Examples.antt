-- The groups that the definitions compute for document 01's (a), (b), (c) and (d), each as one row of a table: the equations of
-- a build of five points, and the points and the equations of its groups. Assumes nothing.
use Rattle.std.specs.Prelude.{ℕ, zero, suc, List, [], ◌∷◌, ◌≡◌, refl, replicate}
use Rattle.std.specs.Float.{binary64}
use Rattle.std.specs.Float.Ieee.{of_bits}
use Rattle.floats.specs.Ops.{one}
use Rattle.loops.specs.Turns.{turns, up_to}
use Rattle.sketch.specs.Blank.{origin, blank_point, blank_active, sample}
use Rattle.sketch.specs.declared.Active.{Active}
use Rattle.sketch.specs.declared.Build.{Build}
use Rattle.sketch.specs.declared.Equation.{Equation}
use Rattle.groups.specs.Chains.{places_from, points_in, equations_in}
use Rattle.groups.specs.Listed.{numbered_of, entered_of, point_of, list_point, list_points, group_of, list_equation, list_equations, groups_of, grouping_of}
use Rattle.groups.specs.Parents.{climb, root_of, join_to, join_all, self_at, joined}
use Rattle.groups.specs.Tied.{tie_to, tie_all, tied_in}
use Rattle.groups.specs.Touches.{touched_in}
use Rattle.groups.specs.declared.Grouping.{Grouping}

-- five free points, no line, and these equations
abbrev five : List Active → Build
five es = sample origin one (replicate 5 blank_point) [] es []

abbrev coincident : ℕ → ℕ → Active
coincident p q = record { equation = Equation.Coincident (record { 0 = p }) (record { 0 = q }) }

abbrev distance : ℕ → ℕ → Active
distance p q = record { equation = Equation.Distance (record { 0 = p }) (record { 0 = q }) (of_bits binary64 0) }

-- a group: its points and its equations
pub record Group : Type 0 where
  pub points : List ℕ
  pub constraints : List ℕ

-- the first n groups of a grouping, from group j on
abbrev groups_from : Grouping → ℕ → ℕ → List Group
groups_from g j zero = []
groups_from g j (suc n) = record { points = points_in g j; constraints = equations_in g j } ∷ groups_from g (suc j) n

-- the groups of a build of these equations, as the Rust lists them
abbrev list_of : List Active → List Group
list_of es = let g = grouping_of (five es) in groups_from g 0 g.count

pub table :
    (list_of (coincident 3 1 ∷ coincident 4 3 ∷ []) ≡ record { points = 1 ∷ 3 ∷ 4 ∷ []; constraints = 0 ∷ 1 ∷ [] } ∷ [])
    × (list_of (coincident 4 3 ∷ coincident 0 2 ∷ [])
    ≡ record { points = 0 ∷ 2 ∷ []; constraints = 1 ∷ [] } ∷ record { points = 3 ∷ 4 ∷ []; constraints = 0 ∷ [] } ∷ [])
    × (list_of (blank_active ∷ []) ≡ [])
    × (list_of (distance 2 2 ∷ []) ≡ record { points = 2 ∷ []; constraints = 0 ∷ [] } ∷ [])
unfolding places_from numbered_of entered_of point_of list_point list_points group_of list_equation list_equations groups_of climb root_of join_to join_all self_at joined tie_to tie_all tied_in touched_in turns up_to
table = (refl, refl, refl, refl)
