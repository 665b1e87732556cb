-- Assumes nothing.
use mathlib.Core.Path.{refl}
use borrow.Author.Rules.{rules}
use Rattle.loops.proofs.Turning.{up_to-next, up_to-done}
use Rattle.normal.specs.Normal.{moved_of}
use Rattle.normal.proofs.step.move_all.Goals as goal

pub loop-c-init : goal.loop-c-init
unfolding moved_of
loop-c-init c = (search rules, refl, refl)

pub loop-c-preserved : goal.loop-c-preserved
loop-c-preserved c =
    let l = c.loop-c in
    (search rules, search rules, up_to-next _ _ _ _ _ _ (search rules) c.move_one.ensures l.invariant.2)

pub returns : goal.returns
returns c = search (up_to-done, rules)
