-- The lines so far are laid.
use mathlib.Core.Path.{◌≡◌}
use Rattle.reply.specs.Laid.{laying}
use Rattle.reply.specs.Lines.{suspect_line}
use Rattle.reply.specs.Reply.{rising}
use Rattle.reply.proofs.writer.Writer.failed_lines.Given as goal

abbrev pub invariant-loop-k : goal.invariant-loop-k
invariant-loop-k l = l.self ≡ laying (rising (suspect_line l.a.suspects) l.k) l.initial.self
