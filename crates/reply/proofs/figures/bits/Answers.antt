-- A NaN has the one pattern. Assumes nothing.
use lib.Ieee.{to_bits}
use borrow.Author.Rules.{rules}
use Rattle.floats.proofs.Values.{only_nan}
use Rattle.reply.proofs.figures.bits.Goals as goal

pub returns-then-is_nan : goal.returns-then-is_nan
unfolding to_bits
returns-then-is_nan c = rw (only_nan c.args.x (search rules))
