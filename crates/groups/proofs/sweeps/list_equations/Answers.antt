-- Assumes nothing.
use mathlib.Core.Path.{refl, ap}
use native.Mathlib.Omega.{arith}
use borrow.Author.Rules.{rules}
use lib.ListN.{length}
use Rattle.loops.proofs.Turning.{up_to-done}
use Rattle.groups.specs.Listed.{list_equation, list_equations}
use Rattle.groups.specs.Touches.{touched_by}
use Rattle.groups.proofs.Named.{list-turn}
use Rattle.groups.proofs.sweeps.list_equations.Goals as goal

pub loop-k-init : goal.loop-k-init
unfolding list_equations
loop-k-init c = refl

pub loop-k-preserved : goal.loop-k-preserved
loop-k-preserved c =
    let l = c.loop-k in
    list-turn c.args.b.now _ l.k _ _ _ c.equations-a-items.ensures (search rules) c.points.ensures c.involved-t.ensures c.args.index.now
    (record { parents = l.p.above; answer = l.of }) _ _ _ _ c.put.ensures c.group_of.ensures.0 c.group_of.ensures.1 l.invariant

pub returns : goal.returns
returns c =
    let l = c.loop-k in
    ap (λ g. g.answer)
    (up_to-done (list_equation c.args.index.now (touched_by c.args.b.now)) _ l.k (record { parents = l.p.above; answer = l.of }) _
    (omega (arith, ap length c.equations-a-items.ensures)) l.invariant)
