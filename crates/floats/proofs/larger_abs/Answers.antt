use lib.Ieee.{of_bits, div}
use Rattle.floats.specs.Largest.{larger_abs}
use Rattle.floats.proofs.larger_abs.Goals as goal

pub returns-then-is_finite : goal.returns-then-is_finite
unfolding larger_abs
returns-then-is_finite c = cc

pub returns-else-is_finite : goal.returns-else-is_finite
unfolding larger_abs div of_bits
returns-else-is_finite c = cc
