use Prim.Native.Nat.{◌≤◌}
use mathlib.Core.Path.{◌≡◌}
use lib.ListN.{length}
use Rattle.loops.specs.Turns.{down_to}
use Rattle.nullspace.specs.Layout.{laid_vector, reflect_by_row}
use Rattle.nullspace.proofs.basis.reflected.Given as goal

abbrev pub invariant-loop-r : goal.invariant-loop-r
invariant-loop-r l = (l.r ≤ l.rank) × (length l.e ≡ l.n) × (down_to l.r (reflect_by_row l.n l.v) l.e ≡ laid_vector l.n l.rank l.v l.j)
