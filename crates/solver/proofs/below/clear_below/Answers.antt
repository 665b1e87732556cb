-- Each turn is one call, whose contract is the definition's step. Assumes nothing.
use mathlib.Core.Path.{refl}
use borrow.Author.Rules.{rules}
use Rattle.loops.proofs.Turning.{up_to-next, up_to-done}
use Rattle.solver.specs.Steps.{below_of}
use Rattle.solver.proofs.below.clear_below.Goals as goal

pub loop-r-init : goal.loop-r-init
unfolding below_of
loop-r-init c = ((search rules, search rules), (refl, refl), refl)

pub loop-r-preserved : goal.loop-r-preserved
loop-r-preserved c = ((search rules, search rules), (search rules, search rules), up_to-next _ _ _ _ _ _ (search rules) c.clear_row.ensures c.loop-r.invariant.2)

pub returns : goal.returns
returns c = search (up_to-done, rules)
