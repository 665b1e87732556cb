-- `root::square` meets its contract. Assumes nothing.
use Rattle.root.proofs.Halves.{by-halves}
use Rattle.root.proofs.square.Goals as goal

pub returns : goal.returns
returns c = by-halves c.args.z
