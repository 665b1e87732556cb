-- Assumes nothing.
use Rattle.std.proofs.Common.{refl, rules, arith, ap, length, length-take}
use Rattle.job.specs.Groups.{loose_of}
use Rattle.job.proofs.Freeing.{loose-turn, loose-done}
use Rattle.job.proofs.freedoms.loose.Goals as goal
use Rattle.job.proofs.freedoms.loose.Goals.{then-get_or-is_fixed, else-get_or-is_fixed}

pub loop-p-init : goal.loop-p-init
unfolding loose_of
loop-p-init c = (search rules, refl)

pub loop-p-preserved : goal.loop-p-preserved
loop-p-preserved c =
    let points = c.args.b.now.points in
    let of = c.args.gr.now.of_point in
    let l = c.loop-p in
    elim c.if-get_or-is_fixed.branch [
      | then-get_or-is_fixed w ↦ (
        omega (arith, w.k-is, l.invariant.0),
        loose-turn points of c.args.b.now.point_count _ _ l.p l.k _ _ _ _ _ c.points-q-items.ensures c.loop-p-test.true c.get_or.ensures c.is_fixed.ensures w.if-get_or-is_fixed.true w.k-is l.invariant.1,
      )
      | else-get_or-is_fixed w ↦ (
        omega (arith, w.k-is, l.invariant.0),
        loose-turn points of c.args.b.now.point_count _ _ l.p l.k _ _ _ _ _ c.points-q-items.ensures c.loop-p-test.true c.get_or.ensures c.is_fixed.ensures w.if-get_or-is_fixed.false w.k-is l.invariant.1,
      )
    ]

pub returns-clause-count : goal.returns-clause-count
returns-clause-count c =
    let b = c.args.b.now in
    let l = c.loop-p in
    loose-done b.points c.args.gr.now.of_point b.point_count l.p l.k _ (rw c.points-q-items.ensures at c.loop-p-test.false)
    (omega (arith, l.auto.p-end, ap length c.points-q-items.ensures, length-take b.point_count b.points)) l.invariant.1

pub returns-clause-few : goal.returns-clause-few
returns-clause-few c =
    let b = c.args.b.now in
    omega (arith, c.loop-p.auto.p-end, c.loop-p.invariant.0, ap length c.points-q-items.ensures, length-take b.point_count b.points)
