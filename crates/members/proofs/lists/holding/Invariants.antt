use Prim.Native.Nat.{◌≤◌}
use lib.ListN.{drop}
use Rattle.groups.specs.Chains.{places_from}
use Rattle.members.proofs.Heads.{Pushed}
use Rattle.members.proofs.lists.holding.Given as goal

abbrev pub invariant-loop-i : goal.invariant-loop-i
invariant-loop-i l = (l.r.count ≤ l.i) × Pushed l.r (places_from l.i (drop l.i l.of) l.g) (places_from 0 l.of l.g)
