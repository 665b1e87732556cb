-- Assumes nothing.
use Rattle.loops.proofs.Turning.{fold-append}
use Rattle.reply.proofs.Laws.{nan_is}
use Rattle.reply.specs.Lines.{point_line}
use Rattle.reply.proofs.writer.Writer.point_line.Goals as goal

pub returns : goal.returns
unfolding point_line
returns c = simp fold-append (cc (c.get_or.ensures, c.get_or-2.ensures, nan_is))
