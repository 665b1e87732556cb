-- By how many rows there are. Assumes nothing.
use Rattle.std.proofs.Common.{sym, ◌∙◌}
use Rattle.rows.specs.Located.{seen}
use Rattle.rows.proofs.Held.{values-stored}
use Rattle.rows.proofs.sweep.values_into.Goals as goal

pub returns-in-None-clause-stored : goal.returns-in-None-clause-stored
returns-in-None-clause-stored c =
    let a = c.args in
    values-stored a.row a.r.now a.lines.now (seen a.points) a.e _ _ c.ends_of.ensures (sym c.in-None.is ∙ c.values.ensures)

pub returns-in-One-clause-stored : goal.returns-in-One-clause-stored
returns-in-One-clause-stored c =
    let a = c.args in
    rw c.put.ensures (values-stored a.row a.r.now a.lines.now (seen a.points) a.e _ _ c.ends_of.ensures (sym c.in-One.is ∙ c.values.ensures))

pub returns-in-Two-clause-stored : goal.returns-in-Two-clause-stored
returns-in-Two-clause-stored c =
    let a = c.args in
    rw (c.put-in-Two-2.ensures, c.put-in-Two.ensures) (values-stored a.row a.r.now a.lines.now (seen a.points) a.e _ _ c.ends_of.ensures (sym c.in-Two.is ∙ c.values.ensures))
