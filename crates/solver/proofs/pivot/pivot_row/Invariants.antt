use Prim.Native.Nat.{◌≤◌}
use mathlib.Core.Path.{◌≡◌}
use Rattle.loops.specs.Turns.{up_to}
use Rattle.solver.specs.Inside.{Sized}
use Rattle.solver.specs.Steps.{larger_row, pivot_of}
use Rattle.solver.proofs.pivot.pivot_row.Given as goal

abbrev pub invariant-loop-row : goal.invariant-loop-row
invariant-loop-row l = (l.row ≤ l.n) × Sized l.n l.col l.a l.best × (up_to l.n l.row (larger_row l.n l.col l.a) l.best.row ≡ pivot_of l.n l.col l.a)
