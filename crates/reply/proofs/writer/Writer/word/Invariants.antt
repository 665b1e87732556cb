-- What is left of the word, laid, gives the whole.
use mathlib.Core.Path.{◌≡◌}
use lib.ListN.{drop}
use Rattle.reply.specs.Laid.{laying}
use Rattle.reply.proofs.writer.Writer.word.Given as goal

abbrev pub invariant-loop-b : goal.invariant-loop-b
invariant-loop-b l = laying (drop l.b-index l.w) l.self ≡ laying l.w l.initial.self
