use Prim.Native.Nat.{◌≤◌}
use mathlib.Core.Path.{◌≡◌}
use lib.ListN.{length}
use Rattle.loops.specs.Turns.{up_to}
use Rattle.rows.specs.Column.{laid}
use Rattle.rooms_c.specs.Sweeps.{jacobian_again}
use Rattle.rooms_c.proofs.sweeps.rooms_jacobian.Given as goal

abbrev pub invariant-loop : goal.invariant-loop
invariant-loop l =
    (l.counter ≤ l.times) × (length l.j ≡ length l.initial.j)
    × (up_to l.times l.counter (jacobian_again l.b.equations l.b.lines l.chosen l.places l.columns l.free l.x) (laid l.n l.j) ≡ up_to l.times 0 (jacobian_again l.b.equations l.b.lines l.chosen l.places l.columns l.free l.x) (laid l.initial.n l.initial.j))
