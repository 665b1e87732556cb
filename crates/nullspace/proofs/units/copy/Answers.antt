use Rattle.loops.proofs.Writes.{into_next, into-whole}
use mathlib.Core.List.{map-id}
use mathlib.Core.Path.{refl, ◌∙◌}
use lib.Ieee.{Float, nan}
use borrow.Author.Rules.{rules}
use Rattle.nullspace.proofs.units.copy.Goals as goal

pub loop-i-init : goal.loop-i-init
loop-i-init c = (refl, search rules, refl, refl)

pub loop-i-preserved : goal.loop-i-preserved
loop-i-preserved c = (search rules, search rules, search rules, into_next (λ (v : Float). v) nan c.args.row.now c.args.to.now c.loop-i.to c.loop-i.i _ (search rules) (search rules) refl c.loop-i.invariant.3)

pub returns : goal.returns
returns c = into-whole (λ (v : Float). v) c.args.row.now c.args.to.now c.loop-i.to c.loop-i.i (search rules) (search rules) (search rules) c.loop-i.invariant.3 ∙ map-id _
