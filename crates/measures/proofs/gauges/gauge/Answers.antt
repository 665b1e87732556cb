-- What the calls promise, from the last to the first. Assumes nothing.
use Rattle.rows.proofs.Given.{given_by}
use Rattle.rows.specs.Kinds.{rows_of_equation}
use Rattle.rows.specs.Located.{seen}
use Rattle.measures.proofs.First.{first-row}
use Rattle.measures.specs.Gauges.{equation_of, gauge_of}
use Rattle.measures.proofs.gauges.gauge.Goals as goal

pub returns : goal.returns
unfolding gauge_of
returns c =
    let a = c.args in
    let at = seen a.points in
    let rows = given_by a.lines.now at c.equation-e.result c.ends_of.result c.ends_of.ensures in
    rw (c.handed_out.ensures, c.first.ensures, c.values-r.ensures, rows, c.equation-e.ensures, first-row (rows_of_equation a.lines.now at (equation_of a.m.now.measure)))
