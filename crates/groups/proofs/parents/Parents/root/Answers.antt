-- Each turn goes to a lower point and leaves the root as it was. Assumes nothing.
use Rattle.groups.proofs.Laws.{ends-answer, ends-parents, turn-root}
use Rattle.groups.proofs.parents.Parents.root.Goals as goal

pub loop-x-preserved : goal.loop-x-preserved
loop-x-preserved c =
    let l = c.loop-x in
    turn-root l.self.above _ l.x _ _ _ _ l.self.falls c.loop-x-test.true c.parent.ensures c.parent-in-loop-x.ensures
    c.parent-above.ensures c.put.ensures l.invariant

pub returns : goal.returns
returns c =
    let l = c.loop-x in (
      ends-answer l.self.above l.x _ _ c.parent.ensures c.loop-x-test.false l.invariant,
      ends-parents l.self.above l.x _ _ c.parent.ensures c.loop-x-test.false l.invariant,
    )
