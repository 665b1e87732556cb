-- No reply is longer than 8,192 bytes, so the whole of it is laid. Assumes nothing.
use borrow.Author.Rules.{rules}
use lib.ListN.{length}
use Prim.Native.Nat.{◌≤◌}
use Rattle.loops.proofs.Parts.{front}
use Rattle.run.proofs.Whole.{fits, written}
use Rattle.fitter.specs.Answered.{answered}
use Rattle.fitter.proofs.output.lay.Goals as goal

pub returns : goal.returns
unfolding answered
returns c =
    let h : c.run.result ≤ length c.run.new.reply = rw c.run.auto.reply (fits _ _ _ _ _ _ _ _ _ _ c.run.ensures (search rules)) in
    record { prefix_len = (h, front _ _ h); reply_after = written _ _ _ _ _ _ _ _ _ _ c.run.ensures (search rules) }
