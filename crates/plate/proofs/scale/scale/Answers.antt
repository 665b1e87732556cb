-- What the calls promise, from the last to the first; the constant is the default past the end. Assumes nothing.
use lib.Ieee.{div, of_bits}
use Rattle.plate.specs.Scale.{scale_at}
use Rattle.plate.proofs.scale.scale.Goals as goal

pub returns : goal.returns
unfolding scale_at div of_bits
returns c = rw (c.put-2.ensures, c.put.ensures, c.in_units-s.ensures, c.get_or-2.ensures, c.get_or.ensures)
