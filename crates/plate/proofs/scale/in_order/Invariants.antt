use Rattle.std.proofs.Common.{◌≡◌}
use Rattle.loops.specs.Turns.{up_to}
use Rattle.plate.specs.Scale.{self_at, in_order}
use Rattle.plate.proofs.scale.in_order.Given as goal

abbrev pub invariant-loop-p : goal.invariant-loop-p
invariant-loop-p l = up_to 40 l.p self_at l.places ≡ in_order
