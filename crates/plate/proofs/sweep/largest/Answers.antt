-- What the equations that are left add gives the whole. Assumes nothing.
use Rattle.std.proofs.Common.{rules, ◌∙◌}
use Rattle.loops.proofs.Turning.{fold_next, fold_done}
use Rattle.rows.specs.Located.{seen}
use Rattle.plate.proofs.Sweeping.{swept}
use Rattle.plate.specs.Inside.{larger_with}
use Rattle.plate.proofs.sweep.largest.Goals as goal

pub loop-a-preserved : goal.loop-a-preserved
loop-a-preserved c =
    let a = c.args in
    fold_next _ (larger_with a.lines.now (seen a.points)) a.equations.now c.loop-a.a-index c.loop-a.m _ _ (search rules) c.larger_of-m.ensures c.loop-a.invariant

pub returns : goal.returns
returns c =
    let a = c.args in
    fold_done (larger_with a.lines.now (seen a.points)) a.equations.now c.loop-a.a-index _ _ (search rules) c.loop-a.invariant ∙ swept a.lines.now (seen a.points) a.equations.now
