use Rattle.std.proofs.Common.{◌≡◌, ◌≤◌}
use Rattle.loops.specs.Turns.{up_to}
use Rattle.job.specs.Groups.{loose_at, loose_of}
use Rattle.job.proofs.freedoms.loose.Given as goal

abbrev pub invariant-loop-p : goal.invariant-loop-p
invariant-loop-p l =
    (l.k ≤ l.p) × (up_to l.b.point_count l.p (loose_at l.b.points l.gr.of_point) l.k ≡ loose_of l.b.points l.gr.of_point l.b.point_count)
