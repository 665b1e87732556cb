use mathlib.Core.Path.{◌∙◌}
use Rattle.rounds.specs.Inside.{problem_in, jacobian_in}
use Rattle.rounds.proofs.Begins.{solves, solves_at_once}
use Rattle.rounds.proofs.opening.opened.Goals as goal

pub returns-then-within : goal.returns-then-within
returns-then-within c =
    rw c.start.ensures (solves_at_once (problem_in c.args.p.now) (jacobian_in c.args.p.now) c.args.x.now c.args.r.now _ c.requires.3 c.within.ensures c.if-within.true)

pub returns-then-is_empty : goal.returns-then-is_empty
returns-then-is_empty c =
    let so = solves (problem_in c.args.p.now) (jacobian_in c.args.p.now) c.args.x.now c.args.r.now _ c.requires.3 c.within.ensures _ c.is_empty.ensures in
    rw c.start-then-is_empty.ensures (rw (c.if-within.false, c.if-is_empty.true) at so)

pub returns : goal.returns
returns c =
    let so = solves (problem_in c.args.p.now) (jacobian_in c.args.p.now) c.args.x.now c.args.r.now _ c.requires.3 c.within.ensures _ c.is_empty.ensures in
    c.all_rounds.ensures ∙ rw c.requires.3 (rw (c.if-within.false, c.if-is_empty.false) at so)
