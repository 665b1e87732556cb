use Prim.Native.Nat.{◌≤◌}
use mathlib.Core.Path.{◌≡◌}
use Rattle.loops.specs.Turns.{up_to}
use Rattle.solver.specs.Steps.{add_term, sum_of}
use Rattle.solver.proofs.back.weight.Given as goal

abbrev pub invariant-loop-c : goal.invariant-loop-c
invariant-loop-c l = (l.c ≤ l.n) × (up_to l.n l.c (add_term l.n l.r l.a l.y) l.s ≡ sum_of l.n l.r l.a l.y)
