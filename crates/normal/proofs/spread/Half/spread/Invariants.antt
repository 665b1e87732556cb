use Prim.Native.Nat.{◌≤◌}
use mathlib.Core.Path.{◌≡◌}
use lib.ListN.{length}
use Rattle.loops.specs.Turns.{up_to}
use Rattle.normal.specs.Half.{spread_row}
use Rattle.normal.proofs.spread.Half.spread.Given as goal

abbrev pub invariant-loop-i : goal.invariant-loop-i
invariant-loop-i l =
    (l.i ≤ l.self.rows) × (length l.w ≡ length l.initial.w) × (up_to l.self.rows l.i (spread_row l.self.rows l.self.numbers.now) l.w ≡ up_to l.self.rows 0 (spread_row l.self.rows l.self.numbers.now) l.initial.w)
