use Rattle.std.proofs.Common.{◌≡◌}
use Rattle.loops.specs.Turns.{up_to}
use Rattle.job.specs.Points.{place_at, placed_in}
use Rattle.job.proofs.points.place_all.Given as goal

abbrev pub invariant-loop-p : goal.invariant-loop-p
invariant-loop-p l = up_to 40 l.p (place_at l.points) l.out ≡ placed_in l.points l.initial.out
