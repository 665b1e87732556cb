use mathlib.Core.Path.{◌≡◌}
use lib.ListN.{length}
use Rattle.loops.specs.Turns.{up_to}
use Rattle.members.specs.Scale.{unscale_at, unscale_of}
use Rattle.members.proofs.scale.unscale.Given as goal

abbrev pub invariant-loop-k : goal.invariant-loop-k
invariant-loop-k l =
    up_to (length l.p-items) l.k (unscale_at l.points l.centre l.size l.p-items l.x) l.out
    ≡ unscale_of l.points l.centre l.size l.p-items l.x l.initial.out
