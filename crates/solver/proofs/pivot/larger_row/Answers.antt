use mathlib.Core.Path.{refl}
use borrow.Author.Tests.{lt-ltb, le-ltb}
use Rattle.loops.proofs.Picks.{pick_yes, pick_no}
use Rattle.solver.specs.Steps.{larger_row}
use Rattle.solver.proofs.pivot.larger_row.Goals as goal

pub returns-then-p-s : goal.returns-then-p-s
unfolding larger_row
returns-then-p-s c = let s = c.magnitude-s.ensures in
    (pick_yes _ _ _ _ (lt-ltb _ _ (rw (c.requires.1.size, s) at c.if-p-s.true)) refl, record { within = c.requires.0.0; size = s })

pub returns-else-p-s : goal.returns-else-p-s
unfolding larger_row
returns-else-p-s c = (pick_no _ _ _ _ (le-ltb _ _ (rw (c.requires.1.size, c.magnitude-s.ensures) at c.if-p-s.false)) refl, c.requires.1)
