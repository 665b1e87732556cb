use Prim.Native.Nat.{◌≤◌, ◌-◌}
use mathlib.Core.Path.{◌≡◌}
use lib.ListN.{length}
use Rattle.solver.specs.Lesser.{lesser_column, lesser_eliminated}
use Rattle.solver.specs.Reasons.{columns_from}
use Rattle.solver.specs.Steps.{sys}
use Rattle.solver.proofs.pivot.eliminate.Given as goal

abbrev pub invariant-loop-col : goal.invariant-loop-col
invariant-loop-col l = (l.col ≤ l.n) × ((length l.a ≡ length l.initial.a) × (length l.b ≡ length l.initial.b)) × (columns_from (lesser_column l.n l.s) (l.n - l.col) l.col (sys l.a l.b) ≡ lesser_eliminated l.n (sys l.initial.a l.initial.b))
