use mathlib.Core.List.{map}
use mathlib.Core.Path.{◌≡◌}
use lib.ListN.{drop}
use Rattle.loops.specs.Turns.{fold}
use Rattle.groups.specs.Parents.{join_to, join_all}
use Rattle.groups.specs.Touches.{number}
use Rattle.groups.proofs.parents.Parents.join_all.Given as goal

abbrev pub invariant-loop-q : goal.invariant-loop-q
invariant-loop-q l =
    fold (join_to l.first.0) l.self.above (map number (drop l.q-index l.others)) ≡ join_all (map number l.points) l.initial.self.above
