-- What the equations that are left store gives the whole. Assumes nothing.
use Rattle.std.proofs.Common.{arith, rules, refl, ap, sym}
use borrow.Author.Tests.{lt-ltb, le-ltb, ltb-false}
use Rattle.loops.proofs.Picks.{pick_yes, pick_no}
use Rattle.loops.proofs.Turning.{fold_done}
use Rattle.sketch.specs.Blank.{blank_active}
use Rattle.sketch.specs.declared.Active.{Active}
use Rattle.rows.specs.Column.{values_next, column_of}
use Rattle.rows.proofs.Held.{values-turn, values-past}
use Rattle.rows.proofs.sweep.residuals.Goals as goal
use Rattle.rows.proofs.sweep.residuals.Goals.{in-Some, in_default}

pub returns-then-chosen-gt40 : goal.returns-then-chosen-gt40
unfolding column_of
returns-then-chosen-gt40 c = pick_yes _ _ _ _ (lt-ltb _ _ c.if-chosen-gt40.true) refl

pub loop-k-preserved : goal.loop-k-preserved
loop-k-preserved c =
    let a = c.args in
    let l = c.loop-k in
    elim c.match-get.branch [
      | in-Some w ↦ (
        omega (arith, w.values_into-row.ensures.few),
        rw (w.row-is, w.r-is)
            (values-turn a.equations.now a.lines.now a.points.places.now a.points.x.now a.chosen.now l.k-index (search rules) _ _ _ _ _ _
            (ap (λ (e : Active). e.equation) (w.in-Some.ensures.lookup.3.1 blank_active)) w.values_into-row.ensures.stored l.invariant.1),
      )
      | in_default w ↦ (
        omega arith,
        rw (w.row-is, w.r-is)
            (values-past a.equations.now a.lines.now a.points.places.now a.points.x.now a.chosen.now l.k-index (search rules) _ _ _
            (ltb-false _ _ (sym w.in_default.ensures.lookup.0)) l.invariant.1),
      )
    ]

pub returns : goal.returns
unfolding column_of
returns c =
    let a = c.args in
    pick_no _ _ _ _ (le-ltb _ _ c.if-chosen-gt40.false)
    (fold_done (values_next a.equations.now a.lines.now a.points.places.now a.points.x.now) a.chosen.now c.loop-k.k-index _ _ (search rules) c.loop-k.invariant.1)
