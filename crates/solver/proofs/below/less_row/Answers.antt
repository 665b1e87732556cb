use mathlib.Core.Path.{refl, ap₂}
use Rattle.loops.proofs.Picks.{pick_yes, pick_no}
use Rattle.solver.specs.Steps.{sys, less_row}
use Rattle.solver.proofs.below.less_row.Goals as goal

pub returns-then-f : goal.returns-then-f
unfolding less_row
returns-then-f c = pick_yes _ _ _ _ c.if-f.true refl

pub returns : goal.returns
unfolding less_row
returns c = pick_no _ _ _ _ c.if-f.false (ap₂ sys c.less_part.ensures refl)
