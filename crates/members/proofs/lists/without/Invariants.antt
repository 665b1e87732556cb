use Prim.Native.Nat.{◌≤◌}
use lib.ListN.{drop}
use Rattle.members.specs.Lists.{without_of}
use Rattle.members.proofs.Heads.{Pushed}
use Rattle.members.proofs.lists.without.Given as goal

abbrev pub invariant-loop-c : goal.invariant-loop-c
invariant-loop-c l =
    (l.r.count ≤ l.c-index) × Pushed l.r (without_of l.k (drop l.c-index l.c-items)) (without_of l.k l.c-items)
