use Prim.Native.Nat.{◌≤◌}
use mathlib.Core.Path.{◌≡◌}
use lib.ListN.{length}
use Rattle.loops.specs.Turns.{up_to}
use Rattle.normal.specs.Normal.{move_one, moved_of}
use Rattle.normal.proofs.step.move_all.Given as goal

abbrev pub invariant-loop-c : goal.invariant-loop-c
invariant-loop-c l =
    (l.c ≤ l.j.columns) × (length l.x ≡ length l.initial.x) × (up_to l.j.columns l.c (move_one l.j.rows l.j.columns l.j.numbers.now l.y l.free) l.x ≡ moved_of l.j.rows l.j.columns l.j.numbers.now l.y l.free l.initial.x)
