-- Assumes nothing.
use native.Mathlib.Omega.{arith}
use borrow.Author.Rules.{rules}
use Rattle.members.proofs.Pushes.{holding-yes, holding-no, holding-done}
use Rattle.members.proofs.lists.holding.Goals as goal
use Rattle.members.proofs.lists.holding.Goals.{then-h-g, else-h-g}

pub loop-i-preserved : goal.loop-i-preserved
loop-i-preserved c =
    let of = c.args.of.now in
    let l = c.loop-i in
    elim c.if-h-g.branch [
      | then-h-g w ↦ rw w.r-is (
        rw w.push.ensures (omega arith),
        holding-yes of c.args.g l.i _ l.r _ _ (search rules) w.if-h-g.true (omega arith) w.push.ensures l.invariant.1,
      )
      | else-h-g w ↦ rw w.r-is (omega arith, holding-no of c.args.g l.i _ l.r _ (search rules) w.if-h-g.false l.invariant.1)
    ]

pub returns : goal.returns
returns c =
    let l = c.loop-i in
    holding-done c.args.of.now c.args.g l.i 0 l.r _ (search rules) (omega arith) l.invariant.1
