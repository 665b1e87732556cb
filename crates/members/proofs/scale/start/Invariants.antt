use Prim.Native.Nat.{◌*◌}
use mathlib.Core.List.{◌++◌}
use mathlib.Core.Path.{◌≡◌}
use lib.ListN.{take, drop}
use Rattle.members.specs.Movable.{points_at}
use Rattle.members.specs.Scale.{start_of}
use Rattle.members.proofs.scale.start.Given as goal

abbrev pub invariant-loop-k : goal.invariant-loop-k
invariant-loop-k l =
    l.x ≡ start_of l.centre l.size (take l.k (points_at l.points l.listed)) ++ drop (2 * l.k) l.initial.x
