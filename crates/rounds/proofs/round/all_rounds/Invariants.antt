use Prim.Native.Nat.{◌-◌, ◌*◌, ◌≤◌}
use mathlib.Core.Path.{◌≡◌}
use Rattle.solver.specs.Sums.{norm2_of}
use Rattle.rounds.specs.Inside.{problem_in, jacobian_in, started_fit, Own}
use Rattle.rounds.specs.Problem.{state_of}
use Rattle.rounds.specs.Solve.{rounds_of}
use Rattle.rounds.proofs.round.all_rounds.Given as goal

-- what is left of the rounds comes to what all of them come to
abbrev pub invariant-loop : goal.invariant-loop
invariant-loop l =
    (l.f.iterations ≤ l.counter)
    × (l.f.tries ≤ 12 * l.counter)
    × Own l.p l.x l.r
    × (rounds_of (problem_in l.p) (jacobian_in l.p) (200 - l.counter) (state_of l.x l.r l.f)
    ≡ rounds_of (problem_in l.p) (jacobian_in l.p) 200 (state_of l.fn.x l.fn.r (started_fit (norm2_of l.fn.r))))
