-- Assumes nothing.
use mathlib.Core.Path.{refl, ap}
use native.Mathlib.Omega.{arith}
use borrow.Author.Rules.{rules}
use lib.ListN.{length}
use Rattle.loops.proofs.Turning.{up_to-done}
use Rattle.groups.specs.Parents.{join_all, joined}
use Rattle.groups.specs.Touches.{touched_by}
use Rattle.groups.proofs.Named.{join-turn}
use Rattle.groups.proofs.sweeps.join_equations.Goals as goal

pub loop-a-init : goal.loop-a-init
unfolding joined
loop-a-init c = refl

pub loop-a-preserved : goal.loop-a-preserved
loop-a-preserved c =
    let l = c.loop-a in
    join-turn c.args.b.now _ l.a-index _ _ _ c.equations-a-items.ensures (search rules) c.points.ensures c.involved-t.ensures l.p.above
    _ _ c.join_all.ensures l.invariant

pub returns : goal.returns
returns c =
    let l = c.loop-a in
    up_to-done (λ k. join_all (touched_by c.args.b.now k)) _ l.a-index l.p.above _
    (omega (arith, ap length c.equations-a-items.ensures)) l.invariant
