use Prim.Native.Nat.{◌+◌, ◌≤◌}
use mathlib.Core.Path.{◌≡◌}
use lib.ListN.{length}
use Rattle.loops.specs.Turns.{up_to}
use Rattle.normal.specs.Half.{triangle, spread_one, spread_row}
use Rattle.normal.proofs.spread.Half.spread_row.Given as goal

abbrev pub invariant-loop-k : goal.invariant-loop-k
invariant-loop-k l =
    (l.k ≤ l.i + 1) × (l.k-end ≡ l.i + 1) × (l.t ≡ triangle l.i) × (length l.w ≡ length l.initial.w) × (up_to (l.i + 1) l.k (spread_one l.self.rows l.self.numbers.now l.i) l.w ≡ spread_row l.self.rows l.self.numbers.now l.i l.initial.w)
