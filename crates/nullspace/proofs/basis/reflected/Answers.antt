-- Each turn reflects by one row of the reflectors. Assumes nothing.
use Prim.Native.Nat.{ℕ, ◌+◌, ◌-◌, ◌*◌}
use mathlib.Core.List.{List}
use mathlib.Core.Path.{◌≡◌, ◌∙◌}
use native.Mathlib.Omega.{arith}
use lib.ListN.{length, take, drop, set, replicate}
use lib.Ieee.{Float}
use borrow.Author.Rules.{rules}
use Rattle.floats.specs.Ops.{zero⁺, one}
use Rattle.solver.specs.Sums.{norm2_of}
use Rattle.loops.specs.Turns.{down_to}
use Rattle.loops.proofs.Turning.{down_to-next, down_to-done}
use Rattle.loops.proofs.Cells.{cell_row}
use Rattle.nullspace.specs.Steps.{reflect_of}
use Rattle.nullspace.specs.Layout.{laid_vector, reflect_by_row}
use Rattle.nullspace.proofs.Built.{one-row, part_length}
use Rattle.nullspace.proofs.basis.reflected.Goals as goal

by_row : (n k s : ℕ) (v e y : List Float) → s ≡ k * n → y ≡ reflect_of (take (s + n - s) (drop s v)) (norm2_of (take (s + n - s) (drop s v))) e → y ≡ reflect_by_row n v k e
unfolding reflect_by_row
by_row n k s v e y h q = q ∙ rw (one-row s n v, h)

from-unit : (n rank j : ℕ) (v e y : List Float) → length e ≡ n → y ≡ set (replicate (length e) zero⁺) j one → down_to rank (reflect_by_row n v) y ≡ laid_vector n rank v j
unfolding laid_vector
from-unit n rank j v e y h q = rw (q, h)

pub loop-r-init : goal.loop-r-init
loop-r-init c = (search rules, search rules, from-unit _ _ _ _ c.args.e.now _ c.requires.0.0 c.unit.ensures)

pub row_start-start-requires : goal.row_start-start-requires
row_start-start-requires c = cell_row c.args.rank c.args.n (c.loop-r.r - 1) _ (omega arith) c.requires.1

pub reflect-requires : goal.reflect-requires
reflect-requires c = (part_length c.row_start-start.result c.args.n _ (omega (arith, cell_row c.args.rank c.args.n (c.loop-r.r - 1) _ (omega arith) c.requires.1, c.row_start-start.ensures)), search rules)

pub loop-r-preserved : goal.loop-r-preserved
loop-r-preserved c = (search rules, search rules, down_to-next _ _ _ _ _ (search rules) (by_row c.args.n (c.loop-r.r - 1) c.row_start-start.result c.args.v.now c.loop-r.e _ c.row_start-start.ensures c.reflect.ensures) c.loop-r.invariant.2)

pub returns : goal.returns
returns c = search (down_to-done, rules)
