use Rattle.std.proofs.Common.{◌≡◌}
use Rattle.floats.proofs.hand_out.Given as goal

abbrev pub invariant-loop-x : goal.invariant-loop-x
invariant-loop-x l = l.s ≡ l.initial.s
