use mathlib.Core.Path.{refl, ap, ◌∙◌}
use borrow.Author.Rules.{rules}
use lib.Ieee.{is_nan, of_bits}
use Rattle.floats.specs.Magnitude.{max_of}
use Rattle.floats.specs.Ops.{zero⁺, 1e-300}
use Rattle.loops.proofs.Turning.{fold_next, fold_done}
use Rattle.solver.specs.Inside.{larger_number}
use Rattle.solver.specs.Steps.{scale_of}
use Rattle.solver.proofs.Scales.{same-scale}
use Rattle.solver.proofs.pivot.scale.Goals as goal

pub loop-v-preserved : goal.loop-v-preserved
loop-v-preserved c = fold_next _ larger_number c.args.a.now c.loop-v.v-index c.loop-v.m _ _ (search rules) c.larger-m.ensures c.loop-v.invariant

pub returns : goal.returns
unfolding scale_of is_nan of_bits
returns c =
    let a = c.args.a.now in
    c.max.ensures ∙ ap (λ m. max_of m 1e-300) (fold_done larger_number a c.loop-v.v-index _ _ (search rules) c.loop-v.invariant ∙ same-scale a zero⁺ refl)
