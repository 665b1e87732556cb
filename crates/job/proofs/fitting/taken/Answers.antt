-- Assumes nothing.
use Rattle.std.proofs.Common.{◌≤◌, arith, rules}
use Rattle.job.specs.Groups.{taken_of}
use Rattle.job.proofs.Freeing.{freedom-is, freedom-few}
use Rattle.job.proofs.fitting.taken.Goals as goal

pub overflow_add-d : goal.overflow_add-d
overflow_add-d c =
    let h : c.unwrap_or-freedom.result ≤ 80 = freedom-few c.freedom.result _ c.freedom.ensures.few c.unwrap_or-freedom.ensures in
    search rules

pub returns-clause-taken : goal.returns-clause-taken
unfolding taken_of
returns-clause-taken c =
    let a = c.args in
    let n = freedom-is a.b.now a.f.now a.t.now.x a.p.now a.q.now a.r.now _ _ _ c.freedom.result _ (search rules) c.freedom.ensures.frees c.unwrap_or-freedom.ensures in
    rw (n, c.unscale.ensures)

pub returns-clause-freedom : goal.returns-clause-freedom
returns-clause-freedom c =
    let h : c.unwrap_or-freedom.result ≤ 80 = freedom-few c.freedom.result _ c.freedom.ensures.few c.unwrap_or-freedom.ensures in
    omega arith
