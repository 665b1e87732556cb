-- What is left to clear gives the whole. Assumes nothing.
use Rattle.std.proofs.Common.{refl, rules}
use Rattle.loops.proofs.Turning.{up_to-next, up_to-done}
use Rattle.slopes.specs.Dense.{clear_at, cleared_of}
use Rattle.slopes.proofs.dense.Dense.clear.Goals as goal

pub loop-c-init : goal.loop-c-init
unfolding cleared_of
loop-c-init c = refl

pub loop-c-preserved : goal.loop-c-preserved
unfolding clear_at
loop-c-preserved c = up_to-next (clear_at _) _ _ _ _ _ (search rules) c.put.ensures c.loop-c.invariant

pub returns : goal.returns
returns c = search (up_to-done, rules)
