use mathlib.Core.Path.{refl}
use borrow.Author.Rules.{rules}
use Rattle.floats.specs.Lists.{swap_at}
use Rattle.loops.proofs.Turning.{up_to-next, up_to-done}
use Rattle.solver.specs.Lesser.{part_swapped}
use Rattle.solver.specs.Steps.{swap_column}
use Rattle.solver.proofs.pivot.swap_rows.Goals as goal

pub loop-c-init : goal.loop-c-init
unfolding part_swapped
loop-c-init c = (search rules, refl, refl)

pub loop-c-preserved : goal.loop-c-preserved
unfolding swap_column swap_at
loop-c-preserved c = (search rules, search rules, search (up_to-next, rules))

pub returns : goal.returns
returns c = search (up_to-done, rules)
