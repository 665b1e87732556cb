-- Assumes nothing.
use mathlib.Core.Path.{sym}
use lib.Seq.{set_out}
use Rattle.normal.specs.Normal.{move_one}
use Rattle.normal.proofs.step.move_one.Goals as goal

pub returns-then-at-x : goal.returns-then-at-x
unfolding move_one
returns-then-at-x c = rw c.step_of-s.ensures

pub returns-else-at-x : goal.returns-else-at-x
unfolding move_one
returns-else-at-x c = sym (set_out _ _ _ c.if-at-x.false)
