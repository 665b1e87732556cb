-- Assumes nothing.
use mathlib.Core.Path.{refl, ◌∙◌}
use native.Mathlib.Omega.{arith}
use borrow.Author.Rules.{rules}
use Rattle.members.specs.Movable.{points_at}
use Rattle.members.specs.Scale.{start_of}
use Rattle.members.proofs.Starts.{start-turn, points-length, point-here, started, too-short}
use Rattle.members.proofs.scale.start.Goals as goal

pub loop-k-init : goal.loop-k-init
unfolding start_of
loop-k-init c = refl

pub loop-k-preserved : goal.loop-k-preserved
loop-k-preserved c =
    let a = c.args in
    let l = c.loop-k in
    let points = a.points.now in
    let listed = c.numbers-listed.result.now in
    start-turn a.centre a.size _ (points_at points listed) _ l.k l.x a.x.now c.scaled-s.result
    (rw (points-length points listed) (search rules)) (omega arith)
    (c.get_or.ensures ∙ point-here points listed l.k _) c.scaled-s.ensures l.invariant

pub returns-after-loop-k : goal.returns-after-loop-k
returns-after-loop-k c =
    let a = c.args in
    let l = c.loop-k in
    started a.points.now _ _ c.numbers-listed.ensures.numbers a.centre a.size a.x.now l.k _ (search rules) (search rules)
    c.if-listed-x.true l.invariant

pub returns-else-listed-x : goal.returns-else-listed-x
returns-else-listed-x c =
    let a = c.args in
    too-short a.points.now _ _ c.numbers-listed.ensures.numbers a.centre a.size a.x.now c.if-listed-x.false
