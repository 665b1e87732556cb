use Prim.Native.Nat.{◌-◌, ◌*◌, ◌≤◌}
use mathlib.Core.Path.{◌≡◌}
use lib.ListN.{length, take, drop}
use Rattle.loops.specs.Turns.{up_to}
use Rattle.nullspace.specs.Layout.{add_vector, laid_basis}
use Rattle.nullspace.proofs.basis.vectors.Given as goal

abbrev pub invariant-loop-j : goal.invariant-loop-j
invariant-loop-j l = ((l.rank ≤ l.j) × (l.j ≤ l.n)) × (length l.out ≡ length l.initial.out) × (up_to l.n l.j (add_vector l.n l.rank l.v) (take ((l.j - l.rank) * l.n) l.out) ≡ laid_basis l.n l.rank l.v) × (drop ((l.j - l.rank) * l.n) l.out ≡ drop ((l.j - l.rank) * l.n) l.initial.out)
