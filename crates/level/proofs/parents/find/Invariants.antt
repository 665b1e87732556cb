use mathlib.Core.Path.{◌≡◌}
use Rattle.loops.specs.Turns.{while_to}
use Rattle.level.specs.Parents.{below, halved, find_of}
use Rattle.level.proofs.parents.find.Given as goal

abbrev pub invariant-loop : goal.invariant-loop
invariant-loop l =
    while_to 80 l.counter below (λ i. halved) (record { parents = l.p; answer = l.x }) ≡ find_of l.initial.p l.x-2
