-- Assumes nothing.
use mathlib.Core.Path.{refl, ap}
use native.Mathlib.Omega.{arith}
use borrow.Author.Rules.{rules}
use lib.ListN.{length}
use Rattle.loops.proofs.Turning.{up_to-done}
use Rattle.groups.specs.Tied.{tie_all, tied_in}
use Rattle.groups.specs.Touches.{touched_by}
use Rattle.groups.proofs.Named.{tie-turn}
use Rattle.groups.proofs.tied.tied_points.Goals as goal

pub loop-a-init : goal.loop-a-init
unfolding tied_in
loop-a-init c = refl

pub loop-a-preserved : goal.loop-a-preserved
loop-a-preserved c =
    let l = c.loop-a in
    tie-turn c.args.b.now _ l.a-index _ _ _ c.equations-a-items.ensures (search rules) c.points.ensures c.involved-t.ensures l.s _ _
    c.tie_all.ensures l.invariant

pub returns : goal.returns
returns c =
    let l = c.loop-a in
    up_to-done (λ k. tie_all (touched_by c.args.b.now k)) _ l.a-index l.s _ (omega (arith, ap length c.equations-a-items.ensures)) l.invariant
