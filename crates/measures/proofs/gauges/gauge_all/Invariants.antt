use Rattle.std.proofs.Common.{◌≡◌, ◌++◌, drop, take}
use mathlib.Core.List.{map}
use Rattle.measures.specs.Gauges.{gauge_of}
use Rattle.measures.proofs.gauges.gauge_all.Given as goal

abbrev pub invariant-loop-i : goal.invariant-loop-i
invariant-loop-i l =
    l.out ≡ map (gauge_of l.lines l.points.places.now l.points.x.now l.size) (take l.i l.measures) ++ drop l.i l.initial.out
