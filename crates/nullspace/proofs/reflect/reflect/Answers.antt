use mathlib.Core.Path.{refl, sym, ◌∙◌}
use Rattle.loops.proofs.Picks.{pick_yes, pick_no}
use Rattle.nullspace.specs.Steps.{less_all, reflect_of}
use Rattle.nullspace.proofs.Zips.{zip-less}
use Rattle.nullspace.proofs.reflect.reflect.Goals as goal

pub returns-then-f : goal.returns-then-f
unfolding reflect_of less_all
returns-then-f c =
    rw (← c.products-p.ensures.0, ← c.products-p.ensures.1)
    (pick_yes _ _ _ _ c.if-f.true (c.row_update.ensures ∙ zip-less _ _ _ refl (c.requires.1 ∙ sym c.requires.0) _))

pub returns-else-f : goal.returns-else-f
unfolding reflect_of less_all
returns-else-f c = rw (← c.products-p.ensures.0, ← c.products-p.ensures.1) (pick_no _ _ _ _ c.if-f.false refl)
