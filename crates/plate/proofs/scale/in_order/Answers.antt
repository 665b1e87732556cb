-- Assumes nothing.
use Rattle.std.proofs.Common.{rules}
use Rattle.loops.proofs.Turning.{up_to-next, up_to-done}
use Rattle.plate.specs.Scale.{self_at}
use Rattle.plate.proofs.scale.in_order.Goals as goal

pub loop-p-preserved : goal.loop-p-preserved
unfolding self_at
loop-p-preserved c = search (up_to-next, rules)

pub returns : goal.returns
returns c = search (up_to-done, rules)
