use Rattle.std.proofs.Common.{◌≡◌, ◌*◌, ◌≤◌, drop}
use Rattle.loops.specs.Turns.{fold}
use Rattle.rows.specs.Column.{laid}
use Rattle.slopes.specs.Dense.{rows_next}
use Rattle.slopes.proofs.sweep.jacobian.Given as goal

abbrev pub invariant-loop-k : goal.invariant-loop-k
invariant-loop-k l =
    (l.row ≤ 2 * l.k-index)
    × (fold (rows_next l.equations l.lines l.points.places.now l.points.x.now l.columns l.n) (laid l.row l.j) (drop l.k-index l.chosen) ≡ fold (rows_next l.equations l.lines l.points.places.now l.points.x.now l.columns l.n) (laid 0 l.initial.j) l.chosen)
