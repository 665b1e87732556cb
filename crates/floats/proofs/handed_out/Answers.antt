-- The logic has one NaN, which the constant is. Assumes nothing.
use mathlib.Core.Path.{sym}
use lib.Ieee.{div, of_bits}
use borrow.Author.Rules.{rules}
use Rattle.floats.proofs.Values.{only_nan}
use Rattle.floats.proofs.handed_out.Goals as goal

pub returns-then-is_nan : goal.returns-then-is_nan
unfolding div of_bits
returns-then-is_nan c = sym (only_nan c.args.x (search rules))
