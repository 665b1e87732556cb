-- The measure is how many digits are left.
use Rattle.reply.proofs.writer.Writer.+hex_digits.Given as goal

abbrev pub decreases-hex_digits : goal.decreases-hex_digits
decreases-hex_digits l = l.k
