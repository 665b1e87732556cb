use Rattle.std.proofs.Common.{◌≡◌, drop}
use Rattle.floats.specs.Ops.{zero⁺}
use Rattle.loops.specs.Turns.{fold}
use Rattle.rows.specs.Located.{seen}
use Rattle.plate.specs.Inside.{larger_with}
use Rattle.plate.proofs.sweep.largest.Given as goal

abbrev pub invariant-loop-a : goal.invariant-loop-a
invariant-loop-a l =
    fold (larger_with l.lines (seen l.points)) l.m (drop l.a-index l.equations) ≡ fold (larger_with l.lines (seen l.points)) zero⁺ l.equations
