use mathlib.Core.Path.{refl}
use borrow.Author.Tests.{lt-ltb, le-ltb}
use Rattle.loops.proofs.Picks.{pick_yes, pick_no}
use Rattle.loops.proofs.Cells.{cells}
use Rattle.nullspace.specs.Layout.{longer_row}
use borrow.Author.Rules.{rules}
use Rattle.nullspace.proofs.qr.longer.Goals as goal

pub norm_from-norm-requires : goal.norm_from-norm-requires
norm_from-norm-requires c = (search rules, search (cells, rules))

pub returns-then-magnitude : goal.returns-then-magnitude
unfolding longer_row
returns-then-magnitude c = (pick_yes _ _ _ _ (lt-ltb _ _ (rw (c.magnitude.ensures, c.magnitude-2.ensures, c.requires.1.norm, c.norm_from-norm.ensures) at c.if-magnitude.true)) refl, record { within = c.requires.0.1.0; norm = c.norm_from-norm.ensures })

pub returns-else-magnitude : goal.returns-else-magnitude
unfolding longer_row
returns-else-magnitude c = (pick_no _ _ _ _ (le-ltb _ _ (rw (c.magnitude.ensures, c.magnitude-2.ensures, c.requires.1.norm, c.norm_from-norm.ensures) at c.if-magnitude.false)) refl, c.requires.1)
