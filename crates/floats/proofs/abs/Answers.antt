-- Assumes nothing.
use Rattle.floats.proofs.Sign.{abs-value, abs-readable}
use borrow.Author.Rules.{rules}
use Rattle.floats.proofs.Values.{only_nan, no_nan}
use Rattle.floats.proofs.abs.Goals as goal

pub float_from_bits-result : goal.float_from_bits-result
float_from_bits-result c = abs-readable _ (search rules) (no_nan _ (search rules))

pub returns-then-is_nan : goal.returns-then-is_nan
returns-then-is_nan c = rw (only_nan c.args.x (search rules))

pub returns-else-is_nan : goal.returns-else-is_nan
returns-else-is_nan c = abs-value _ (search rules) (no_nan _ (search rules))
