use Prim.Native.Nat.{◌+◌, ◌-◌, ◌≤◌}
use mathlib.Core.Path.{◌≡◌}
use Rattle.normal.specs.Half.{spread_of}
use Rattle.rounds.specs.Inside.{problem_in, rows_in, begun_fit, tries_at}
use Rattle.rounds.specs.Problem.{state_of}
use Rattle.rounds.specs.Solve.{tries_of}
use Rattle.rounds.proofs.tries.all_tries.Given as goal

-- what is left of the tries comes to what all of them come to
abbrev pub invariant-loop : goal.invariant-loop
invariant-loop l =
    (l.f.tries ≤ 2400 + l.counter)
    × (tries_of (problem_in l.p) l.j (spread_of (rows_in l.p) l.system.half.now) l.system.largest (12 - l.counter) (state_of l.x l.r l.f)
    ≡ tries_at (problem_in l.p) l.j (state_of l.fn.x l.fn.r (begun_fit l.fn.fit)))
