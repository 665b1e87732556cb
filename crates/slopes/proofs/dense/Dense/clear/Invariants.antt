use Rattle.std.proofs.Common.{◌≡◌}
use Rattle.loops.specs.Turns.{up_to}
use Rattle.slopes.specs.Dense.{clear_at, cleared_of}
use Rattle.slopes.proofs.dense.Dense.clear.Given as goal

abbrev pub invariant-loop-c : goal.invariant-loop-c
invariant-loop-c l = up_to l.self.n l.c (clear_at l.self.base) l.jac ≡ cleared_of l.self.n l.self.base l.initial.jac
