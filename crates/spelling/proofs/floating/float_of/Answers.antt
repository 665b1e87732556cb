-- Assumes nothing.
-- Assumes nothing.
use lib.Ieee.{div, of_bits}
use Rattle.spelling.proofs.Bits.{no_nan, is-nan}
use Rattle.spelling.proofs.floating.float_of.Goals as goal

pub float_from_bits-result : goal.float_from_bits-result
float_from_bits-result c = no_nan _ c.if-bits-gt9218868437227405312.false

pub returns-then-bits-gt9218868437227405312 : goal.returns-then-bits-gt9218868437227405312
unfolding div of_bits
returns-then-bits-gt9218868437227405312 c = is-nan _ c.if-bits-gt9218868437227405312.true
