use Rattle.std.proofs.Common.{◌≡◌, ◌*◌, ◌≤◌, drop}
use Rattle.loops.specs.Turns.{fold}
use Rattle.rounds.specs.Problem.{more_rows}
use Rattle.fit.proofs.ranks.row_count.Given as goal

abbrev pub invariant-loop-k : goal.invariant-loop-k
invariant-loop-k l =
    (l.rows ≤ 2 * l.k-index) × (fold (more_rows l.b.equations) l.rows (drop l.k-index l.k-items) ≡ fold (more_rows l.b.equations) 0 l.k-items)
