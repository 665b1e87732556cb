use Prim.Native.Nat.{◌≤◌}
use mathlib.Core.Path.{◌≡◌}
use Rattle.loops.specs.Turns.{up_to}
use Rattle.normal.specs.Normal.{add_step, step_of}
use Rattle.normal.proofs.jacobian.Jacobian.step_of.Given as goal

abbrev pub invariant-loop-i : goal.invariant-loop-i
invariant-loop-i l =
    (l.i ≤ l.self.rows) × (up_to l.self.rows l.i (add_step l.self.columns l.self.numbers.now l.y l.c) l.sum ≡ step_of l.self.rows l.self.columns l.self.numbers.now l.y l.c)
