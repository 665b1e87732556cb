use lib.Ieee.{of_bits}
use Rattle.rooms_c.proofs.numbers.rooms_get.Goals as goal

pub returns : goal.returns
unfolding of_bits
returns c = c.get_or.ensures
