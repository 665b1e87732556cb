-- Assumes nothing.
use Rattle.std.proofs.Common.{rules}
use Rattle.job.proofs.Stepping.{one-failed, one-converged}
use Rattle.job.proofs.fitting.one_group.Goals as goal

pub returns-in-Ok-clause-step : goal.returns-in-Ok-clause-step
returns-in-Ok-clause-step c =
    let a = c.args in
    one-converged a.b.now a.gr.now a.g a.d c.set_out-f.result c.fit.result a.p.now a.q.now a.r.now _ _ _ c.set_out-f.ensures (search rules) c.fit.ensures
    c.in-Ok.t c.taken.result c.in-Ok.is c.taken.ensures.taken

pub returns-in-Err-clause-step : goal.returns-in-Err-clause-step
returns-in-Err-clause-step c =
    let a = c.args in
    one-failed a.b.now a.gr.now a.g a.d c.set_out-f.result c.fit.result a.p.now a.q.now a.r.now _ _ _ c.set_out-f.ensures (search rules) c.fit.ensures
    c.in-Err.u c.failing.result c.in-Err.is c.failing.ensures
