-- From the row's place on. Assumes nothing.
use Rattle.std.proofs.Common.{◌≤◌, arith}
use Rattle.rows.specs.Located.{seen}
use Rattle.slopes.proofs.Held.{rows-laid, few}
use Rattle.slopes.proofs.sweep.rows_into.Goals as goal

pub overflow_add-result : goal.overflow_add-result
overflow_add-result c =
    let a = c.args in
    let h : c.gradients.result ≤ 2 = few a.points.places.now a.columns.now a.n a.lines.now (seen a.points) a.e _ a.row _ _ _ c.ends_of.ensures c.gradients.ensures in
    omega arith

pub returns : goal.returns
returns c =
    let a = c.args in
    let h : c.gradients.result ≤ 2 = few a.points.places.now a.columns.now a.n a.lines.now (seen a.points) a.e _ a.row _ _ _ c.ends_of.ensures c.gradients.ensures in
    record {
      stored = rows-laid a.points.places.now a.columns.now a.n a.lines.now (seen a.points) a.e _ a.row _ _ _ c.ends_of.ensures c.gradients.ensures;
      few = omega arith;
    }
