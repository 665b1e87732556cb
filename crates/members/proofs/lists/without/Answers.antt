-- Assumes nothing.
use native.Mathlib.Omega.{arith}
use borrow.Author.Rules.{rules}
use Rattle.members.proofs.Pushes.{without-yes, without-no, without-done}
use Rattle.members.proofs.lists.without.Goals as goal
use Rattle.members.proofs.lists.without.Goals.{then-c-k, else-c-k}

pub loop-c-preserved : goal.loop-c-preserved
loop-c-preserved c =
    let l = c.loop-c in
    elim c.if-c-k.branch [
      | then-c-k w ↦ rw w.r-is (
        rw w.push.ensures (omega arith),
        without-yes _ c.args.k l.c-index _ l.r _ _ (search rules) w.if-c-k.true (omega arith) w.push.ensures l.invariant.1,
      )
      | else-c-k w ↦ rw w.r-is (omega arith, without-no _ c.args.k l.c-index _ l.r _ (search rules) w.if-c-k.false l.invariant.1)
    ]

pub returns : goal.returns
returns c =
    let l = c.loop-c in
    without-done _ _ c.args.k l.c-index l.r c.numbers-c-items.ensures.numbers (search rules) (omega (arith, c.numbers-c-items.ensures.few)) l.invariant.1
