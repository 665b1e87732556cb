use Prim.Native.Nat.{◌*◌, ◌≤◌}
use mathlib.Core.Path.{◌≡◌}
use lib.ListN.{length, take}
use Rattle.loops.specs.Turns.{up_to}
use Rattle.nullspace.specs.Layout.{add_unit, unit_rows}
use Rattle.nullspace.proofs.units.unit_rows.Given as goal

abbrev pub invariant-loop-i : goal.invariant-loop-i
invariant-loop-i l = (l.i ≤ l.rows) × (length l.w ≡ length l.initial.w) × (up_to l.rows l.i (add_unit l.n l.m) (take (l.i * l.n) l.w) ≡ unit_rows l.rows l.n l.m)
