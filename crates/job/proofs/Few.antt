-- A build has at most 40 groups, so none is left out. Assumes nothing.
use Prim.Native.Nat.{ℕ, ◌≤◌}
use mathlib.Core.List.{List}
use mathlib.Core.Bool.{Bool, false}
use mathlib.Core.Path.{◌≡◌, refl}
use native.Mathlib.Nat.{min-eq_left}
use native.Mathlib.Omega.{arith}
use lib.ListN.{get_or}
use Rattle.loops.proofs.Keeps.{up_to-keeps}
use Rattle.groups.proofs.Laws.{point-count}
use Rattle.groups.specs.Listed.{nothing, point_of, list_point, list_points, groups_of, grouping_of}
use Rattle.sketch.specs.declared.Build.{Build}
use Rattle.job.specs.Groups.{group_count}

-- a point opens at most one group
listed : (tied : List Bool) (ps : List ℕ) → (list_points tied ps).answer.count ≤ 40
unfolding list_points list_point
listed tied ps =
    up_to-keeps (λ q g. g.answer.count ≤ q) (list_point tied) 40
    (λ q g h k. omega (arith, point-count (get_or tied q false) q g (point_of (get_or tied q false) q g).answer refl))
    0 (record { parents = ps; answer = nothing }) (omega arith) (omega arith)

few : (t : ℕ → List ℕ) (n : ℕ) → (groups_of t n).count ≤ 40
unfolding groups_of
few t n = listed _ _

pub all-counted : (b : Build) → group_count b (grouping_of b) ≡ (grouping_of b).count
all-counted b = min-eq_left (few _ _)
