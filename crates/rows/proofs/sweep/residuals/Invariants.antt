use Rattle.std.proofs.Common.{◌≡◌, ◌*◌, ◌≤◌, drop}
use Rattle.loops.specs.Turns.{fold}
use Rattle.rows.specs.Column.{laid, values_next}
use Rattle.rows.proofs.sweep.residuals.Given as goal

abbrev pub invariant-loop-k : goal.invariant-loop-k
invariant-loop-k l =
    (l.row ≤ 2 * l.k-index)
    × (fold (values_next l.equations l.lines l.points.places.now l.points.x.now) (laid l.row l.r) (drop l.k-index l.chosen) ≡ fold (values_next l.equations l.lines l.points.places.now l.points.x.now) (laid 0 l.initial.r) l.chosen)
