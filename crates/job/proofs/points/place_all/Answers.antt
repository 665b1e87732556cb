-- Assumes nothing.
use Rattle.std.proofs.Common.{refl, rules, ◌∙◌}
use Rattle.loops.proofs.Turning.{up_to-done}
use Rattle.job.specs.Points.{place_at, placed_in}
use Rattle.job.proofs.Laying.{place-turn, places, stays}
use Rattle.job.proofs.points.place_all.Goals as goal
use Rattle.job.proofs.points.place_all.Goals.{in-Placed, in_default}

pub loop-p-init : goal.loop-p-init
unfolding placed_in
loop-p-init c = refl

pub loop-p-preserved : goal.loop-p-preserved
loop-p-preserved c =
    elim c.match-q.branch [
      | in-Placed w ↦ place-turn c.args.points.now _ c.loop-p.p c.loop-p.out _ _ (search rules) (search rules) (places _ _ c.loop-p.p c.loop-p.out _ w.in-Placed.is (w.out-is ∙ w.put_point.ensures)) c.loop-p.invariant
      | in_default w ↦ place-turn c.args.points.now _ c.loop-p.p c.loop-p.out _ _ (search rules) (search rules) (w.out-is ∙ stays _ c.loop-p.p c.loop-p.out w.in_default.not-Placed) c.loop-p.invariant
    ]

pub returns : goal.returns
returns c = up_to-done (place_at c.args.points.now) 40 c.loop-p.p c.loop-p.out _ (search rules) c.loop-p.invariant
