use mathlib.Core.Path.{◌≡◌}
use lib.ListN.{length}
use Rattle.loops.specs.Turns.{up_to}
use Rattle.sketch.specs.Parts.{equations_of}
use Rattle.groups.specs.Parents.{join_all, joined}
use Rattle.groups.specs.Touches.{touched_by}
use Rattle.groups.proofs.sweeps.join_equations.Given as goal

abbrev pub invariant-loop-a : goal.invariant-loop-a
invariant-loop-a l =
    up_to (length (equations_of l.b)) l.a-index (λ k. join_all (touched_by l.b k)) l.p.above ≡ joined (touched_by l.b) (length (equations_of l.b)) l.initial.p.above
