use mathlib.Core.List.{map}
use mathlib.Core.Path.{◌≡◌}
use lib.ListN.{drop}
use Rattle.loops.specs.Turns.{fold}
use Rattle.groups.specs.Tied.{tie_to, tie_all}
use Rattle.groups.specs.Touches.{number}
use Rattle.groups.proofs.tied.tie_all.Given as goal

abbrev pub invariant-loop-q : goal.invariant-loop-q
invariant-loop-q l = fold tie_to l.s (map number (drop l.q-index l.points)) ≡ tie_all (map number l.points) l.initial.s
