use Prim.Native.Nat.{◌≤◌}
use mathlib.Core.Path.{◌≡◌}
use Rattle.loops.specs.Turns.{up_to}
use Rattle.normal.specs.Half.{max_in_half, half_largest_of}
use Rattle.normal.proofs.spread.Half.largest.Given as goal

abbrev pub invariant-loop-i : goal.invariant-loop-i
invariant-loop-i l =
    (l.i ≤ l.self.rows) × (up_to l.self.rows l.i (max_in_half l.self.numbers.now) l.m ≡ half_largest_of l.self.rows l.self.numbers.now)
