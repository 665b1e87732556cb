-- Each turn gives at most one number, so that the count stays within the points passed. Assumes nothing.
use mathlib.Core.Path.{refl, ap}
use native.Mathlib.Omega.{arith}
use borrow.Author.Rules.{rules}
use Rattle.loops.proofs.Turning.{up_to-done}
use Rattle.groups.specs.Listed.{list_point, list_points}
use Rattle.groups.proofs.Laws.{root-low, tied-turn, untied-turn, entered-count}
use Rattle.groups.proofs.listing.list_points.Goals as goal
use Rattle.groups.proofs.listing.list_points.Goals.{then-is_tied, else-is_tied}

pub loop-q-init : goal.loop-q-init
unfolding list_points
loop-q-init c = (search rules, refl)

pub enter-requires : goal.enter-requires
enter-requires c =
    let l = c.loop-q in
    let h = root-low l.p.above l.q c.root-r.result l.p.falls c.root-r.ensures.0 in
    (omega arith, omega arith, omega arith)

pub loop-q-preserved : goal.loop-q-preserved
loop-q-preserved c =
    let l = c.loop-q in
    elim c.if-is_tied.branch [
      | then-is_tied w ↦ rw (w.p-is, w.s-is) (
        omega (arith, entered-count _ _ l.s _ w.enter.ensures),
        tied-turn c.args.tied.now l.q _ l.p.above l.s _ (search rules) (search rules) l.invariant.1 _ _ _ w.if-is_tied.true
            w.root-r.ensures.0 w.root-r.ensures.1 w.enter.ensures,
      )
      | else-is_tied w ↦ rw (w.p-is, w.s-is) (
        omega arith,
        untied-turn c.args.tied.now l.q _ l.p.above l.s _ (search rules) (search rules) l.invariant.1 w.if-is_tied.false,
      )
    ]

pub returns : goal.returns
returns c =
    let l = c.loop-q in
    let e = up_to-done (list_point c.args.tied.now) 40 l.q (record { parents = l.p.above; answer = l.s }) _ (search rules) l.invariant.1 in
    (ap (λ g. g.answer) e, ap (λ g. g.parents) e)
