use mathlib.Core.Path.{◌≡◌}
use lib.ListN.{length}
use Rattle.loops.specs.Turns.{up_to}
use Rattle.sketch.specs.Parts.{equations_of}
use Rattle.groups.specs.Listed.{list_equation, list_equations}
use Rattle.groups.specs.Touches.{touched_by}
use Rattle.groups.proofs.sweeps.list_equations.Given as goal

abbrev pub invariant-loop-k : goal.invariant-loop-k
invariant-loop-k l =
    up_to (length (equations_of l.b)) l.k (list_equation l.index (touched_by l.b)) (record { parents = l.p.above; answer = l.of })
    ≡ list_equations l.index (touched_by l.b) (length (equations_of l.b)) l.initial.p.above
