-- equations.rs, `fit`, `freedom` and `conflicts`, of a group that is set out: what each comes to.
use Rattle.std.specs.Prelude.{ℕ, ◌-◌, Bool, true, false, List, Float, length, set, replicate}
use Rattle.loops.specs.Turns.{fold}
use Rattle.members.specs.Lists.{numbers_of, without_of}
use Rattle.members.specs.Movable.{indices_of}
use Rattle.nullspace.specs.Promise.{decomposed_of}
use Rattle.nullspace.specs.Steps.{rank_of}
use Rattle.rounds.specs.Problem.{row_count, jacobian_at}
use Rattle.rounds.specs.Promise.{outcome_of}
use Rattle.rounds.specs.Solve.{Outcome, converged, failed}
use Rattle.sketch.specs.declared.Build.{Build}
use Rattle.fit.specs.Frames.{start_in}
use Rattle.fit.specs.declared.Frame.{Frame}

-- `fit`, with the equations of these numbers
abbrev pub outcome_in : Build → Frame → List ℕ → Outcome
outcome_in b f chosen = outcome_of b.equations b.lines f.places f.columns chosen (indices_of f.free) (start_in b f)

-- `freedom`, its number: free coordinates minus rank, at x
unfoldable pub gradients_of : Build → Frame → List Float → List Float
gradients_of b f x = jacobian_at b.equations b.lines f.places (numbers_of f.equations.0) f.columns (length (indices_of f.free)) x

unfoldable pub freedom_of : Build → Frame → List Float → ℕ
freedom_of b f x =
    let n = length (indices_of f.free) in
    n - rank_of (decomposed_of (row_count b.equations (numbers_of f.equations.0)) n (gradients_of b f x))

-- `conflicts`: without equation k the rest converges
abbrev pub converges : Outcome → Bool
converges (converged x i t) = true
converges (failed w i t) = false

unfoldable pub suspect : Build → Frame → ℕ → Bool
suspect b f k = converges (outcome_in b f (without_of k (numbers_of f.equations.0)))

-- equation k is marked, of those that are no suspects none is
unfoldable pub mark : Build → Frame → List Bool → ℕ → List Bool
mark b f marks k = set marks k (suspect b f k)

unfoldable pub suspects_of : Build → Frame → List Bool
suspects_of b f = fold (mark b f) (replicate 40 false) (numbers_of f.equations.0)
