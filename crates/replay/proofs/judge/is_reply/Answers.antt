-- What stands at the head of the reply is the reply. Assumes nothing.
use mathlib.Core.Path.{◌∙◌}
use borrow.Author.Rules.{rules}
use Rattle.loops.proofs.Parts.{front}
use Rattle.run.proofs.Whole.{fits, written}
use Rattle.replay.specs.Judged.{answered}
use Rattle.replay.proofs.Same.{same-compared}
use Rattle.replay.proofs.judge.is_reply.Goals as goal

pub slice_bounds-reply-end : goal.slice_bounds-reply-end
slice_bounds-reply-end c = rw c.run-n.auto.reply (fits _ _ _ _ _ _ _ _ _ _ c.run-n.ensures (search rules))

pub slice_bounds-eq-end : goal.slice_bounds-eq-end
slice_bounds-eq-end c = front c.run-n.result c.run-n.new.reply (rw c.run-n.auto.reply (fits _ _ _ _ _ _ _ _ _ _ c.run-n.ensures (search rules)))

pub returns : goal.returns
unfolding answered
returns c = c.eq.ensures ∙ rw (written _ _ _ _ _ _ _ _ _ _ c.run-n.ensures (search rules)) (same-compared _ _)
