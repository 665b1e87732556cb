-- Assumes nothing.
use Rattle.std.proofs.Common.{rules}
use Rattle.loops.proofs.Turning.{up_to-next, up_to-done}
use Rattle.plate.specs.Scale.{all_scaled_of}
use Rattle.plate.proofs.scale.scaled.Goals as goal

pub loop-p-init : goal.loop-p-init
unfolding all_scaled_of
loop-p-init c = rw c.min-p-end.ensures

pub loop-p-preserved : goal.loop-p-preserved
loop-p-preserved c = up_to-next _ _ _ _ _ _ (search rules) c.scale.ensures c.loop-p.invariant

pub returns : goal.returns
returns c = up_to-done _ _ _ _ _ (search rules) c.loop-p.invariant
