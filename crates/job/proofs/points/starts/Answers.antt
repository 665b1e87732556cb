-- Assumes nothing.
use Rattle.std.proofs.Common.{refl, rules}
use Rattle.loops.proofs.Turning.{up_to-done}
use Rattle.job.specs.Points.{drawn_at, drawn}
use Rattle.job.proofs.Laying.{drawn-turn}
use Rattle.job.proofs.points.starts.Goals as goal

pub loop-p-init : goal.loop-p-init
unfolding drawn
loop-p-init c = refl

pub loop-p-preserved : goal.loop-p-preserved
loop-p-preserved c = drawn-turn c.args.points.now _ c.loop-p.p c.loop-p.out _ _ (search rules) (search rules) c.put_point.ensures c.loop-p.invariant

pub returns : goal.returns
returns c = up_to-done (drawn_at c.args.points.now) 40 c.loop-p.p c.loop-p.out _ (search rules) c.loop-p.invariant
