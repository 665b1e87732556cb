use Prim.Native.Nat.{◌≤◌}
use mathlib.Core.Path.{◌≡◌}
use lib.ListN.{drop}
use Rattle.loops.specs.Turns.{up_to, fold}
use Rattle.solver.specs.Sums.{add_square, norm2_of}
use Rattle.nullspace.specs.Steps.{dot_of}
use Rattle.nullspace.specs.Layout.{add_product}
use Rattle.nullspace.proofs.reflect.products.Given as goal

abbrev pub invariant-loop-i : goal.invariant-loop-i
invariant-loop-i l = (l.i ≤ l.n) × (up_to l.n l.i (add_product l.v l.c) l.dot ≡ dot_of l.v l.c) × (fold add_square l.norm (drop l.i l.v) ≡ norm2_of l.v)
