use Rattle.std.proofs.Common.{◌≡◌}
use Rattle.loops.specs.Turns.{up_to}
use Rattle.job.specs.Points.{drawn_at, drawn}
use Rattle.job.proofs.points.starts.Given as goal

abbrev pub invariant-loop-p : goal.invariant-loop-p
invariant-loop-p l = up_to 40 l.p (drawn_at l.points) l.out ≡ drawn l.points
