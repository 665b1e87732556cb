-- Assumes nothing.
use Rattle.std.proofs.Common.{arith, rules}
use Rattle.std.proofs.lemmas.Result.{err_from_is_err_and}
use Rattle.job.proofs.Stepping.{begin-free, groups-begin, groups-next, groups-stop, groups-done}
use Rattle.job.proofs.sweeps.all_groups.Goals as goal

pub loop-g-init : goal.loop-g-init
loop-g-init c =
    let a = c.args in
    (omega (arith, begin-free a.b.now c.begun-d.result c.begun-d.ensures), groups-begin a.b.now a.gr.now a.n c.begun-d.result c.begun-d.ensures)

pub returns-in_err-d-clause-groups : goal.returns-in_err-d-clause-groups
returns-in_err-d-clause-groups c =
    let a = c.args in
    let l = c.loop-g in
    let e = c.in_err-d.field-0.0 in
    let p = err_from_is_err_and c.from_residual.result c.from_residual.ensures.1 in
    rw (p.1, p.2) (groups-stop a.b.now a.gr.now a.n l.g l.d _ l.invariant.1 e.group e.failure (search rules) c.in_err-d.ensures.step)

pub loop-g-preserved : goal.loop-g-preserved
loop-g-preserved c =
    let a = c.args in
    let l = c.loop-g in
    (omega (arith, c.in_ok-d.ensures.freedom, l.invariant.0), groups-next a.b.now a.gr.now a.n l.g l.d _ l.invariant.1 c.in_ok-d.d (search rules) c.in_ok-d.ensures.step)

pub returns-clause-groups : goal.returns-clause-groups
returns-clause-groups c =
    let a = c.args in
    let l = c.loop-g in
    groups-done a.b.now a.gr.now a.n l.g l.d _ l.invariant.1 (search rules)
