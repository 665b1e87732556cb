use Rattle.std.proofs.Common.{◌≡◌, ◌++◌, map, take, drop}
use Rattle.floats.specs.Ops.{◌⊘◌}
use Rattle.nullspace.proofs.units.divide.Given as goal

abbrev pub invariant-loop-x : goal.invariant-loop-x
invariant-loop-x l = l.row ≡ map (λ v. v ⊘ l.len) (take l.x-index l.initial.row) ++ drop l.x-index l.initial.row
