use Rattle.std.proofs.Common.{◌≡◌, drop}
use Rattle.floats.specs.Ops.{zero⁺}
use Rattle.loops.specs.Turns.{fold}
use Rattle.solver.specs.Inside.{larger_number}
use Rattle.solver.proofs.pivot.scale.Given as goal

abbrev pub invariant-loop-v : goal.invariant-loop-v
invariant-loop-v l = fold larger_number l.m (drop l.v-index l.a) ≡ fold larger_number zero⁺ l.a
