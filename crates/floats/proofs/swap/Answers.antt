use lib.Ieee.{div, of_bits}
use Rattle.floats.specs.Lists.{swap_at}
use Rattle.floats.proofs.swap.Goals as goal

pub returns : goal.returns
unfolding swap_at div of_bits
returns c = rw (c.put-2.ensures, c.put.ensures, c.get_or-x.ensures, c.get_or-y.ensures)
