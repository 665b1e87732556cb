use Prim.Native.Nat.{◌+◌, ◌≤◌}
use mathlib.Core.Path.{◌≡◌}
use lib.ListN.{length}
use Rattle.loops.specs.Turns.{up_to}
use Rattle.normal.specs.Half.{triangle}
use Rattle.normal.specs.Inside.{put_one, put_row}
use Rattle.normal.proofs.half.half_row.Given as goal

abbrev pub invariant-loop-k : goal.invariant-loop-k
invariant-loop-k l =
    (l.k ≤ l.i + 1) × (l.k-end ≡ l.i + 1) × (l.t ≡ triangle l.i) × (length l.h ≡ length l.initial.h) × (up_to (l.i + 1) l.k (put_one l.j.columns l.j.numbers.now l.i) l.h ≡ put_row l.j.columns l.j.numbers.now l.i l.initial.h)
