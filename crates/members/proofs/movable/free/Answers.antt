-- Assumes nothing.
use native.Mathlib.Omega.{arith}
use borrow.Author.Rules.{rules}
use Rattle.members.proofs.Pushes.{free-yes, free-no, free-done}
use Rattle.members.proofs.movable.free.Goals as goal
use Rattle.members.proofs.movable.free.Goals.{then-not-fixed, else-not-fixed}

pub loop-k-preserved : goal.loop-k-preserved
loop-k-preserved c =
    let l = c.loop-k in
    let points = c.args.points.now in
    let few = c.numbers-p-items.ensures.few in
    elim c.if-not-fixed.branch [
      | then-not-fixed w ↦ rw w.f-is (
        rw (w.push-then-not-fixed.ensures, w.push.ensures) (omega arith),
        free-yes points _ l.k _ l.f _ (search rules) _ c.get_or.ensures _ c.fixed.ensures l.invariant.1 _ _
            (search rules) (omega (arith, few)) w.push.ensures w.push-then-not-fixed.ensures,
      )
      | else-not-fixed w ↦ rw w.f-is (
        omega arith,
        free-no points _ l.k _ l.f _ (search rules) _ c.get_or.ensures _ c.fixed.ensures l.invariant.1 (search rules),
      )
    ]

pub returns : goal.returns
returns c =
    let l = c.loop-k in
    free-done c.args.points.now _ _ l.k l.f c.numbers-p-items.ensures.numbers (search rules) (omega (arith, c.numbers-p-items.ensures.few))
    l.invariant.1
