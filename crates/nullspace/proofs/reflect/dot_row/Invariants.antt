use Prim.Native.Nat.{◌≤◌}
use mathlib.Core.Path.{◌≡◌}
use Rattle.loops.specs.Turns.{up_to}
use Rattle.nullspace.specs.Layout.{add_product_at, dot_at}
use Rattle.nullspace.proofs.reflect.dot_row.Given as goal

abbrev pub invariant-loop-i : goal.invariant-loop-i
invariant-loop-i l = (l.i ≤ l.n) × (up_to l.n l.i (add_product_at l.n l.j l.t) l.s ≡ dot_at l.n l.j l.t)
