use Rattle.solver.specs.Steps.{row_of}
use Rattle.solver.proofs.below.clear_row.Goals as goal

pub returns : goal.returns
unfolding row_of
returns c = c.less_row.ensures
