use Prim.Native.Nat.{◌≤◌}
use mathlib.Core.Path.{◌≡◌}
use Rattle.loops.specs.Turns.{up_to}
use Rattle.groups.specs.Listed.{list_point, list_points}
use Rattle.groups.proofs.listing.list_points.Given as goal

abbrev pub invariant-loop-q : goal.invariant-loop-q
invariant-loop-q l =
    (l.s.count ≤ l.q)
    × (up_to 40 l.q (list_point l.tied) (record { parents = l.p.above; answer = l.s }) ≡ list_points l.tied l.initial.p.above)
