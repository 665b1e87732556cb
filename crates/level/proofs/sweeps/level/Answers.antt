-- Assumes nothing.
use mathlib.Core.Path.{refl}
use borrow.Author.Rules.{rules}
use Rattle.loops.proofs.Turning.{up_to-next, up_to-done}
use Rattle.level.specs.Level.{level_of}
use Rattle.level.proofs.sweeps.level.Goals as goal

pub loop-number-init : goal.loop-number-init
unfolding level_of
loop-number-init c = refl

pub loop-number-preserved : goal.loop-number-preserved
loop-number-preserved c =
    let l = c.loop-number in
    up_to-next _ 2 l.number l.points _ _ (search rules) (rw c.fixed_points-fixed.ensures at c.level.ensures) l.invariant

pub returns : goal.returns
returns c = let l = c.loop-number in up_to-done _ 2 l.number l.points _ (search rules) l.invariant
