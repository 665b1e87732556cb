use Prim.Native.Nat.{◌≤◌}
use mathlib.Core.Path.{◌≡◌}
use lib.ListN.{length}
use Rattle.loops.specs.Turns.{up_to}
use Rattle.solver.specs.Steps.{less_by}
use Rattle.solver.proofs.below.row_update.Given as goal

abbrev pub invariant-loop-i : goal.invariant-loop-i
invariant-loop-i l = (l.i ≤ l.end) × (length l.row ≡ length l.initial.row) × (up_to l.end l.i (less_by l.other l.f) l.row ≡ up_to l.end 0 (less_by l.other l.f) l.initial.row)
