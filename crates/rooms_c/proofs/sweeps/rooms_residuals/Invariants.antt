use Prim.Native.Nat.{◌≤◌}
use mathlib.Core.Path.{◌≡◌}
use lib.ListN.{length}
use Rattle.loops.specs.Turns.{up_to}
use Rattle.rows.specs.Column.{laid}
use Rattle.rooms_c.specs.Sweeps.{column_again}
use Rattle.rooms_c.proofs.sweeps.rooms_residuals.Given as goal

abbrev pub invariant-loop : goal.invariant-loop
invariant-loop l =
    (l.counter ≤ l.times) × (length l.r ≡ length l.initial.r)
    × (up_to l.times l.counter (column_again l.b.equations l.b.lines l.chosen l.places l.x) (laid l.n l.r) ≡ up_to l.times 0 (column_again l.b.equations l.b.lines l.chosen l.places l.x) (laid l.initial.n l.initial.r))
