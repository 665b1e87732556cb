use Prim.Native.Nat.{◌≤◌}
use mathlib.Core.Path.{◌≡◌}
use lib.ListN.{length}
use Rattle.loops.specs.Turns.{up_to}
use Rattle.replay.specs.Counted.{turn_of}
use Rattle.replay.proofs.tally.count.Given as goal

abbrev pub invariant-loop-i : goal.invariant-loop-i
invariant-loop-i l =
    (l.i ≤ length l.s) × (l.i-end ≡ length l.s) × (up_to (length l.s) l.i (turn_of l.s) l.t ≡ up_to (length l.s) 0 (turn_of l.s) l.initial.t)
