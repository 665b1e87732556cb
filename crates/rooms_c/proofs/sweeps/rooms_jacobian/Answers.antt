use mathlib.Core.Path.{refl}
use borrow.Author.Rules.{rules}
use Rattle.loops.proofs.Turning.{up_to-next, up_to-done}
use Rattle.rooms_c.specs.Sweeps.{jacobian_again}
use Rattle.rooms_c.proofs.sweeps.rooms_jacobian.Goals as goal

pub loop-init : goal.loop-init
loop-init c = (search rules, refl, refl)

pub loop-preserved : goal.loop-preserved
unfolding jacobian_again
loop-preserved c = (search rules, search rules, search (up_to-next, rules))

pub returns : goal.returns
returns c = rw (← c.build_of-b.ensures) (up_to-done _ _ _ _ _ (search rules) c.loop.invariant.2)
