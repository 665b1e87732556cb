use borrow.Author.Rules.{rules}
use Rattle.loops.proofs.Turning.{up_to-next, up_to-done}
use Rattle.solver.proofs.Rows.{as-far}
use Rattle.solver.specs.Steps.{less_by}
use Rattle.solver.proofs.below.row_update.Goals as goal

pub loop-i-preserved : goal.loop-i-preserved
unfolding less_by
loop-i-preserved c = (search rules, search rules, search (up_to-next, rules))

pub returns : goal.returns
returns c = as-far _ _ _ _ _ c.min-end.ensures c.loop-i.invariant.1 (search (up_to-done, rules))
