-- The lines so far are laid.
use mathlib.Core.Path.{◌≡◌}
use lib.ListN.{get_or}
use Rattle.answer.specs.Endings.{blank_group}
use Rattle.reply.specs.Laid.{laying}
use Rattle.reply.specs.Lines.{group_line}
use Rattle.reply.specs.Reply.{rising}
use Rattle.reply.proofs.writer.Writer.fitted_lines.Given as goal

abbrev pub invariant-loop-g : goal.invariant-loop-g
invariant-loop-g l = l.self ≡ laying (rising (λ i. group_line (get_or l.g-items i blank_group)) l.g-index) l.initial.self
