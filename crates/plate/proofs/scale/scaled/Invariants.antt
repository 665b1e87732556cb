use Rattle.std.proofs.Common.{◌≡◌, min}
use Rattle.loops.specs.Turns.{up_to}
use Rattle.plate.specs.Scale.{scale_at, all_scaled_of}
use Rattle.plate.proofs.scale.scaled.Given as goal

abbrev pub invariant-loop-p : goal.invariant-loop-p
invariant-loop-p l =
    up_to l.p-end l.p (scale_at l.centre l.size l.points) l.x ≡ all_scaled_of l.centre l.size (min l.n 40) l.points
