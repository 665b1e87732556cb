-- Assumes nothing.
use mathlib.Core.Path.{refl}
use borrow.Author.Rules.{rules}
use Rattle.loops.proofs.Turning.{up_to-done}
use Rattle.members.specs.Scale.{unscale_of}
use Rattle.members.proofs.Backs.{back-turn}
use Rattle.members.proofs.scale.unscale.Goals as goal

pub loop-k-init : goal.loop-k-init
unfolding unscale_of
loop-k-init c = refl

pub loop-k-preserved : goal.loop-k-preserved
loop-k-preserved c =
    let a = c.args in
    let l = c.loop-k in
    back-turn a.points.now a.centre a.size a.x.now _ l.k _ l.out _ _ (search rules) c.unscale_to.ensures l.invariant

pub returns : goal.returns
returns c =
    let l = c.loop-k in
    rw (← c.numbers-p-items.ensures.numbers) (up_to-done _ _ l.k l.out _ (search rules) l.invariant)
