-- What a group of a build comes to, each given the whole build, its groups and the group's number: its fit, freedom, suspects, lowest
-- point and residuals. What a job hands out is made of these (crates/job/specs/Groups.antt), and of these demand 3 says that they depend on the
-- group's own part of the build alone (Own.antt).
use Rattle.std.specs.Prelude.{ℕ, ◌<◌, Bool, true, false, cond, ◌↔◌, ◌≡◌, Float, length, get_or}
use mathlib.Core.List.{List, map, Memᴰ}
use Rattle.floats.specs.Largest.{AllWithin}
use Rattle.floats.specs.Ops.{1e-12}
use Rattle.groups.specs.Chains.{equations_in, Lowest}
use Rattle.groups.specs.declared.Grouping.{Grouping}
use Rattle.members.specs.Lists.{numbers_of, without_of}
use Rattle.members.specs.Movable.{indices_of}
use Rattle.rounds.specs.Problem.{row_count, jacobian_at, problem_of}
use Rattle.rounds.specs.Reasons.{Because, Tells}
use Rattle.rounds.specs.Solve.{Problem, Outcome, converged, failed}
use Rattle.rounds.specs.declared.Reason.{Reason}
use Rattle.rows.specs.Column.{rows_at}
use Rattle.rows.specs.Entries.{Row}
use Rattle.sketch.specs.declared.Build.{Build}
use Rattle.fit.specs.Fits.{outcome_in, freedom_of, converges, suspects_of}
use Rattle.fit.specs.Promise.{frame_over_rows}
use Rattle.fit.specs.Frames.{frame_of, start_in}
use Rattle.fit.specs.declared.Frame.{Frame}

-- the lowest point of a group: its first
abbrev pub lowest_of : Frame → ℕ
lowest_of f = get_or f.points.0.items 0 0

-- the freedom of a group; with more than 64 rows it would count none, and no group of a build that passes the check has more
-- (crates/job/proofs/Rowed.antt)
abbrev pub freedom_in : Build → Frame → List Float → ℕ
freedom_in b f x = cond (frame_over_rows b f) 0 (freedom_of b f x)

module _ (b : Build) (gr : Grouping) (g : ℕ) where
  -- group g set out for its fit
  abbrev pub frame_in : Frame
  frame_in = frame_of b.points gr g

  -- `eq.fit(g, &g.constraints)`: converged at its coordinates or failed for a reason, the iterations and the tries
  abbrev pub outcome_at : Outcome
  outcome_at = outcome_in b frame_in (numbers_of frame_in.equations.0)

  -- the problem that it solves, and its Jacobian
  abbrev pub problem_at : Problem
  problem_at =
      let own = numbers_of frame_in.equations.0 in
      problem_of b.equations b.lines frame_in.places own (indices_of frame_in.free) (row_count b.equations own)

  abbrev pub slopes_at : List Float → List Float
  slopes_at x = jacobian_at b.equations b.lines frame_in.places (numbers_of frame_in.equations.0) frame_in.columns (length (indices_of frame_in.free)) x

  -- it fails for a reason exactly when what the reason says holds, and what it then names (crates/rounds/specs/Reasons.antt):
  -- `reason-exactly` and `reason-tells` (proofs/Reasons.antt)
  abbrev pub ReasonAt : Reason → ℕ → ℕ → Type 0
  ReasonAt w i t = Because problem_at slopes_at (start_in b frame_in) i t w

  abbrev pub TellsAt : Reason → ℕ → Type 0
  TellsAt w i = Tells problem_at slopes_at w i

  abbrev pub ReasonExactly : Type 0
  ReasonExactly = (w : Reason) (i t : ℕ) → outcome_at ≡ failed w i t ↔ ReasonAt w i t

  abbrev pub ReasonTells : Type 0
  ReasonTells = (w : Reason) (i t : ℕ) → outcome_at ≡ failed w i t → TellsAt w i

  -- at given coordinates
  abbrev pub freedom_at : List Float → ℕ
  freedom_at x = freedom_in b frame_in x

  abbrev pub suspects_at : List Bool
  suspects_at = suspects_of b frame_in

  abbrev pub lowest_at : ℕ
  lowest_at = lowest_of frame_in

  -- the fit without equation k
  abbrev pub outcome_without : ℕ → Outcome
  outcome_without k = outcome_in b frame_in (without_of k (equations_in gr g))

  -- equation k is a suspect exactly when it is one of the group's and the group without it converges: `suspects-exactly`
  -- (proofs/SuspectsTheorem.antt)
  abbrev pub SuspectsExactly : Type 0
  SuspectsExactly = (k : ℕ) → k < 40 → get_or suspects_at k false ≡ true ↔ Memᴰ k (equations_in gr g) × (converges (outcome_without k) ≡ true)

  -- the residuals of equation k at given coordinates of the group
  abbrev pub residuals_at : List Float → ℕ → List Float
  residuals_at x k = map (λ (row : Row). row.value) (rows_at b.equations b.lines frame_in.places x k)

  -- fitted means fitted: at the coordinates of a group that converged, every residual of every of its equations is finite and of
  -- magnitude at most 1e-12: `fitted-holds` (proofs/MeansFitted.antt)
  abbrev pub FittedHolds : Type 0
  FittedHolds = (x : List Float) (i t : ℕ) → outcome_at ≡ converged x i t → (k : ℕ) → Memᴰ k (equations_in gr g) → AllWithin 1e-12 (residuals_at x k)

  -- the lowest point is the `Lowest` of crates/groups/specs/Chains.antt: `lowest-is` (proofs/Lowest.antt), of every build that passes
  abbrev pub LowestIs : Type 0
  LowestIs = g < gr.count → Lowest gr g lowest_at
