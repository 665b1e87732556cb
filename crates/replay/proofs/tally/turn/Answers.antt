use Rattle.std.proofs.Common.{sym, ◌∙◌}
use Rattle.replay.proofs.Laws.{found_within}
use Rattle.replay.proofs.tally.turn.Goals as goal

pub judged-requires : goal.judged-requires
judged-requires c = found_within _ _ _ (sym c.record_at.ensures ∙ c.in-Ok.is)
