use mathlib.Core.Path.{refl}
use lib.Ieee.{neg, of_bits}
use borrow.Author.Rules.{rules}
use Rattle.loops.proofs.Turning.{up_to-next, up_to-done}
use Rattle.solver.specs.Steps.{add_term, sum_of}
use Rattle.solver.proofs.back.weight.Goals as goal

pub loop-c-init : goal.loop-c-init
unfolding sum_of neg of_bits
loop-c-init c = (search rules, refl)

pub loop-c-preserved : goal.loop-c-preserved
unfolding add_term
loop-c-preserved c = (search rules, search (up_to-next, rules))

pub returns : goal.returns
returns c = search (up_to-done, rules)
