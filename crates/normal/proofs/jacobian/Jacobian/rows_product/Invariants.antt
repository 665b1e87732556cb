use Prim.Native.Nat.{◌*◌, ◌≤◌}
use mathlib.Core.Path.{◌≡◌}
use Rattle.loops.specs.Turns.{up_to}
use Rattle.normal.specs.Normal.{add_product, rows_product}
use Rattle.normal.proofs.jacobian.Jacobian.rows_product.Given as goal

abbrev pub invariant-loop-c : goal.invariant-loop-c
invariant-loop-c l =
    (l.c ≤ l.self.columns) × (l.p ≡ l.i * l.self.columns) × (l.q ≡ l.k * l.self.columns) × (up_to l.self.columns l.c (add_product l.self.columns l.self.numbers.now l.i l.k) l.s ≡ rows_product l.self.columns l.self.numbers.now l.i l.k)
