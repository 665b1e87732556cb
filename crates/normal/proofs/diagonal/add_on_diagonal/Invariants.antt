use Prim.Native.Nat.{◌≤◌}
use mathlib.Core.Path.{◌≡◌}
use lib.ListN.{length}
use Rattle.loops.specs.Turns.{up_to}
use Rattle.normal.specs.Normal.{add_on_diagonal, damped_of}
use Rattle.normal.proofs.diagonal.add_on_diagonal.Given as goal

abbrev pub invariant-loop-i : goal.invariant-loop-i
invariant-loop-i l =
    (l.i ≤ l.rows) × (length l.w ≡ length l.initial.w) × (up_to l.rows l.i (add_on_diagonal l.rows l.mu l.m) l.w ≡ damped_of l.rows l.mu l.m l.initial.w)
