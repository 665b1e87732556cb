-- Each equation adds at most two rows, so the sum fits. Assumes nothing.
use Rattle.std.proofs.Common.{◌≡◌, ◌+◌, ◌≤◌, ℕ, ap, arith, rules}
use Rattle.loops.proofs.Turning.{fold_next, fold_done}
use Rattle.sketch.specs.Rows.{rows_of, more_rows}
use Rattle.sketch.specs.declared.Equation.{Equation}
use Rattle.sketch.proofs.AtMostTwo.{two-at-most}
use Rattle.sketch.proofs.counts.rows_of_all.Goals as goal

small : (r : ℕ) (e : Equation) → r ≡ rows_of e → r ≤ 2
small r e h = omega (arith, two-at-most e)

pub overflow_add-total : goal.overflow_add-total
overflow_add-total c = let h : c.rows-total.result ≤ 2 = small _ _ c.rows-total.ensures in search rules

pub loop-a-preserved : goal.loop-a-preserved
unfolding more_rows
loop-a-preserved c =
    let l = c.loop-a in
    let h : c.rows-total.result ≤ 2 = small _ _ c.rows-total.ensures in
    (omega arith, fold_next _ more_rows c.args.equations.now l.a-index l.total _ _ (search rules) (ap (λ r. l.total + r) c.rows-total.ensures) l.invariant.1)

pub returns : goal.returns
returns c = fold_done more_rows c.args.equations.now c.loop-a.a-index _ _ (search rules) c.loop-a.invariant.1
