-- Assumes nothing.
use Rattle.floats.proofs.Sign.{abs-bits}
use lib.Ieee.{to_bits}
use borrow.Author.Rules.{rules}
use Rattle.floats.proofs.Values.{only_nan, no_nan}
use Rattle.floats.specs.Magnitude.{magnitude_of}
use Rattle.floats.proofs.magnitude.Goals as goal

pub returns-then-is_nan : goal.returns-then-is_nan
unfolding magnitude_of to_bits
returns-then-is_nan c = rw (only_nan c.args.x (search rules))

pub returns-else-is_nan : goal.returns-else-is_nan
unfolding magnitude_of
returns-else-is_nan c = abs-bits _ (search rules) (no_nan _ (search rules))
