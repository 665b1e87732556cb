use Prim.Native.Nat.{◌-◌, ◌^◌}
use Rattle.root.specs.Whole.{Over}
use Rattle.root.proofs.climb.Given as goal

abbrev pub invariant-loop-a : goal.invariant-loop-a
invariant-loop-a l = Over l.t l.a

abbrev pub decreases-loop-a : goal.decreases-loop-a
decreases-loop-a l = 2 ^ 54 - l.a
