use Rattle.std.proofs.Common.{◌≡◌}
use Rattle.groups.specs.Parents.{root_of}
use Rattle.groups.proofs.parents.Parents.root.Given as goal

abbrev pub invariant-loop-x : goal.invariant-loop-x
invariant-loop-x l = root_of l.self.above l.x ≡ root_of l.initial.self.above l.x-2

abbrev pub decreases-loop-x : goal.decreases-loop-x
decreases-loop-x l = l.x
