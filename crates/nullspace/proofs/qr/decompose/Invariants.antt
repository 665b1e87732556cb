use Prim.Native.Nat.{◌≤◌, min}
use mathlib.Core.Path.{◌≡◌}
use lib.ListN.{length}
use Rattle.loops.specs.Turns.{while_to}
use Rattle.nullspace.specs.Layout.{laid_out, laid_on, laid, laid_turn}
use Rattle.nullspace.proofs.qr.decompose.Given as goal

abbrev pub invariant-loop-k : goal.invariant-loop-k
invariant-loop-k l = ((l.k ≤ l.last) × (l.last ≡ min l.n l.rows)) × (length l.w ≡ length l.initial.w) × (while_to l.last l.k (laid_on l.rows l.n) (laid_turn l.rows l.n) (laid l.k l.first l.w) ≡ laid_out l.rows l.n l.initial.w)
