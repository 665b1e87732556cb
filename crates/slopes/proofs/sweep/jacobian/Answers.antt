-- What the equations that are left store gives the whole. Assumes nothing.
use Rattle.std.proofs.Common.{arith, rules, refl, ap, sym}
use borrow.Author.Tests.{ltb-false}
use Rattle.loops.proofs.Picks.{pick_yes, pick_no}
use Rattle.loops.proofs.Turning.{fold_done}
use Rattle.sketch.specs.Blank.{blank_active}
use Rattle.sketch.specs.declared.Active.{Active}
use Rattle.slopes.specs.Dense.{rows_next, jacobian_of}
use Rattle.slopes.proofs.Held.{rows-turn, rows-past}
use Rattle.slopes.proofs.sweep.jacobian.Goals as goal
use Rattle.slopes.proofs.sweep.jacobian.Goals.{in-Some, in_default}

pub returns-then-chosen-n : goal.returns-then-chosen-n
unfolding jacobian_of
returns-then-chosen-n c = pick_yes _ _ _ _ c.if-chosen-n.true refl

pub loop-k-preserved : goal.loop-k-preserved
loop-k-preserved c =
    let a = c.args in
    let l = c.loop-k in
    elim c.match-get.branch [
      | in-Some w ↦ (
        omega (arith, w.rows_into-row.ensures.few),
        rw (w.row-is, w.j-is)
            (rows-turn a.equations.now a.lines.now a.points.places.now a.points.x.now a.chosen.now l.k-index (search rules) a.columns.now a.n _ _ _ _ _ _
            (ap (λ (e : Active). e.equation) (w.in-Some.ensures.lookup.3.1 blank_active)) w.rows_into-row.ensures.stored l.invariant.1),
      )
      | in_default w ↦ (
        omega arith,
        rw (w.row-is, w.j-is)
            (rows-past a.equations.now a.lines.now a.points.places.now a.points.x.now a.chosen.now l.k-index (search rules) a.columns.now a.n _ _ _
            (ltb-false _ _ (sym w.in_default.ensures.lookup.0)) l.invariant.1),
      )
    ]

pub returns : goal.returns
unfolding jacobian_of
returns c =
    let a = c.args in
    pick_no _ _ _ _ c.if-chosen-n.false
    (fold_done (rows_next a.equations.now a.lines.now a.points.places.now a.points.x.now a.columns.now a.n) a.chosen.now c.loop-k.k-index _ _ (search rules) c.loop-k.invariant.1)
