-- Each equation adds at most two rows, so the sum fits. Assumes nothing.
use Rattle.std.proofs.Common.{◌≡◌, ◌+◌, ◌≤◌, ℕ, ap, arith, rules, ◌∙◌}
use Rattle.loops.proofs.Turning.{fold_next, fold_done}
use Rattle.rounds.specs.Problem.{more_rows, row_count}
use Rattle.sketch.proofs.AtMostTwo.{two-at-most}
use Rattle.sketch.specs.Rows.{rows_of}
use Rattle.sketch.specs.declared.Equation.{Equation}
use Rattle.fit.proofs.ranks.row_count.Goals as goal

small : (r : ℕ) (e : Equation) → r ≡ rows_of e → r ≤ 2
small r e h = omega (arith, two-at-most e)

pub overflow_add-rows : goal.overflow_add-rows
overflow_add-rows c = let h : c.rows-rows.result ≤ 2 = small _ _ c.rows-rows.ensures in search rules

pub loop-k-preserved : goal.loop-k-preserved
unfolding more_rows
loop-k-preserved c =
    let l = c.loop-k in
    let h : c.rows-rows.result ≤ 2 = small _ _ c.rows-rows.ensures in
    (omega arith, fold_next 0 (more_rows c.args.b.now.equations) c.numbers-k-items.result.now l.k-index l.rows _ _ (search rules) (ap (λ r. l.rows + r) (c.rows-rows.ensures ∙ rw c.get_or.ensures)) l.invariant.1)

pub returns : goal.returns
unfolding row_count
returns c =
    fold_done (more_rows c.args.b.now.equations) c.numbers-k-items.result.now c.loop-k.k-index _ _ (search rules) c.loop-k.invariant.1
    ∙ rw c.numbers-k-items.ensures.numbers
