use Rattle.std.proofs.Common.{◌≡◌, ◌*◌, ◌≤◌, drop}
use Rattle.loops.specs.Turns.{fold}
use Rattle.sketch.specs.Rows.{more_rows}
use Rattle.sketch.proofs.counts.rows_of_all.Given as goal

abbrev pub invariant-loop-a : goal.invariant-loop-a
invariant-loop-a l = (l.total ≤ 2 * l.a-index) × (fold more_rows l.total (drop l.a-index l.equations) ≡ fold more_rows 0 l.equations)
