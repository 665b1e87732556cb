use Prim.Native.Nat.{◌≤◌}
use mathlib.Core.Path.{◌≡◌}
use lib.ListN.{length}
use Rattle.loops.specs.Turns.{up_to}
use Rattle.normal.specs.Inside.{put_row}
use Rattle.normal.proofs.half.half_rows.Given as goal

abbrev pub invariant-loop-i : goal.invariant-loop-i
invariant-loop-i l =
    (l.i ≤ l.j.rows) × (length l.h ≡ length l.initial.h) × (up_to l.j.rows l.i (put_row l.j.columns l.j.numbers.now) l.h ≡ up_to l.j.rows 0 (put_row l.j.columns l.j.numbers.now) l.initial.h)
