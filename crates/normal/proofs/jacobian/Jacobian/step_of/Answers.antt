-- Assumes nothing.
use mathlib.Core.Path.{refl}
use borrow.Author.Rules.{rules}
use lib.Ieee.{neg, of_bits}
use Rattle.loops.proofs.Turning.{up_to-next, up_to-done}
use Rattle.normal.specs.Normal.{add_step, step_of}
use Rattle.normal.proofs.jacobian.Jacobian.step_of.Goals as goal

pub loop-i-init : goal.loop-i-init
unfolding step_of neg of_bits
loop-i-init c = (search rules, refl)

pub loop-i-preserved : goal.loop-i-preserved
unfolding add_step
loop-i-preserved c = (search rules, search (up_to-next, rules))

pub returns : goal.returns
returns c = search (up_to-done, rules)
