-- What the calls promise, from the last to the first; the constant is the default. Assumes nothing.
use lib.Ieee.{div, of_bits}
use Rattle.rows.specs.Located.{at_of}
use Rattle.rows.proofs.located.Located.at.Goals as goal

pub returns : goal.returns
unfolding at_of div of_bits
returns c = rw (c.get_or-2.ensures, c.get_or.ensures, c.local-k.ensures.place)
