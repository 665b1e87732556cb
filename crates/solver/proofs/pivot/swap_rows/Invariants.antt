use Prim.Native.Nat.{◌≤◌}
use mathlib.Core.Path.{◌≡◌}
use lib.ListN.{length}
use Rattle.loops.specs.Turns.{up_to}
use Rattle.solver.specs.Lesser.{part_swapped}
use Rattle.solver.specs.Steps.{swap_column}
use Rattle.solver.proofs.pivot.swap_rows.Given as goal

abbrev pub invariant-loop-c : goal.invariant-loop-c
invariant-loop-c l = (l.c ≤ l.n) × (length l.a ≡ length l.initial.a) × (up_to l.n l.c (swap_column l.n l.piv l.col) l.a ≡ part_swapped l.n l.col l.piv l.initial.a)
