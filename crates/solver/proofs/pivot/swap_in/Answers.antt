use mathlib.Core.Path.{refl, ap₂}
use borrow.Author.Tests.{eq-eqb, ne_eqb}
use Rattle.loops.proofs.Picks.{pick_yes, pick_no}
use Rattle.solver.specs.Lesser.{lesser_swapped}
use Rattle.solver.specs.Steps.{sys}
use Rattle.solver.proofs.pivot.swap_in.Goals as goal

pub returns-then-piv-col : goal.returns-then-piv-col
unfolding lesser_swapped
returns-then-piv-col c = pick_yes _ _ _ _ (eq-eqb _ _ c.if-piv-col.true) refl

pub returns : goal.returns
unfolding lesser_swapped
returns c = pick_no _ _ _ _ (ne_eqb _ _ c.if-piv-col.false) (ap₂ sys c.swap_rows.ensures c.swap.ensures)
