use Prim.Native.Nat.{◌^◌, ◌≤◌}
use Rattle.root.specs.Whole.{Under}
use Rattle.root.proofs.fall.Given as goal

abbrev pub invariant-loop-a : goal.invariant-loop-a
invariant-loop-a l = (l.a ≤ 2 ^ 53) × Under l.t l.a

abbrev pub decreases-loop-a : goal.decreases-loop-a
decreases-loop-a l = l.a
