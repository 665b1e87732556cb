-- The groups that count are as many as the definition goes over. Assumes nothing.
use Rattle.loops.proofs.Turning.{fold-append}
use Rattle.reply.specs.Reply.{fitted_lines}
use Rattle.reply.proofs.Laws.{groups-laid}
use Rattle.reply.proofs.writer.Writer.fitted_lines.Goals as goal

pub returns : goal.returns
unfolding fitted_lines
returns c =
    let g = c.groups-g-items.ensures in
    let e = groups-laid c.args.a.now _ _ _ _ g.items g.count c.loop-g.auto.g-index-end c.loop-g-test.false c.loop-g.invariant in
    simp fold-append (cc)
