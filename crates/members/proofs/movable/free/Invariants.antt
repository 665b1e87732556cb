use Prim.Native.Nat.{◌*◌, ◌≤◌}
use lib.ListN.{drop}
use Rattle.members.specs.Movable.{points_at, free_from}
use Rattle.members.proofs.Heads.{Pushed}
use Rattle.members.proofs.movable.free.Given as goal

abbrev pub invariant-loop-k : goal.invariant-loop-k
invariant-loop-k l =
    (l.f.count ≤ 2 * l.k)
    × Pushed l.f (free_from l.k (drop l.k (points_at l.points l.p-items))) (free_from 0 (points_at l.points l.p-items))
