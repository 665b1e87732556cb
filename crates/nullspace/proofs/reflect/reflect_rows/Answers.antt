use native.Mathlib.Omega.{arith}
use Rattle.loops.proofs.Cells.{cell_row}
use mathlib.Core.Path.{refl}
use borrow.Author.Rules.{rules}
use Rattle.loops.proofs.Turning.{up_to-next, up_to-done}
use Rattle.nullspace.specs.Layout.{reflected_by}
use Rattle.nullspace.proofs.reflect.reflect_rows.Goals as goal

pub loop-j-init : goal.loop-j-init
unfolding reflected_by
loop-j-init c = (refl, refl)

pub reflect_row-requires : goal.reflect_row-requires
reflect_row-requires c = (omega arith, omega (arith, cell_row _ _ _ _ c.loop-j-test.true c.requires))

pub loop-j-preserved : goal.loop-j-preserved
loop-j-preserved c = (search rules, search (up_to-next, rules))

pub returns : goal.returns
returns c = search (up_to-done, rules)
