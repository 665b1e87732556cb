-- The measure is the number itself.
use Rattle.reply.proofs.writer.Writer.+digits.Given as goal

abbrev pub decreases-digits : goal.decreases-digits
decreases-digits l = l.n
