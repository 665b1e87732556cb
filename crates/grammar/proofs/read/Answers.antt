-- Assumes nothing.
use Rattle.grammar.proofs.Theorem.{reads-form}
use Rattle.grammar.proofs.read.Goals as goal

pub returns : goal.returns
returns c = rw c.read.ensures (reads-form _)
