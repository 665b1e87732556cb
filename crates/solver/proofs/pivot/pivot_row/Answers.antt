use mathlib.Core.Path.{refl}
use borrow.Author.Rules.{rules}
use Rattle.loops.proofs.Turning.{up_to-next, up_to-done}
use Rattle.solver.specs.Steps.{pivot_of}
use Rattle.solver.proofs.pivot.pivot_row.Goals as goal

pub loop-row-init : goal.loop-row-init
unfolding pivot_of
loop-row-init c = (search rules, record { within = c.requires.0; size = c.magnitude.ensures }, refl)

pub larger_row-best-requires : goal.larger_row-best-requires
larger_row-best-requires c = ((search rules, (search rules, search rules)), search rules)

pub loop-row-preserved : goal.loop-row-preserved
loop-row-preserved c = (search rules, search rules, search (up_to-next, rules))

pub returns : goal.returns
returns c = (search (up_to-done, rules), c.loop-row.invariant.1.within)
