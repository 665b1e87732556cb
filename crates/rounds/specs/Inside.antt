-- What the code holds by value and in slices, in the definitions' terms.
use Rattle.std.specs.Prelude.{ℕ, ◌+◌, ◌-◌, ◌*◌, ◌≤◌, Bool, true, false, cond, List, ◌≡◌, eqb, Float, length, Result, Ok, Err}
use Rattle.std.specs.declared.ops.ControlFlow.{ControlFlow}
use Rattle.std.specs.declared.ops.ControlFlow.TheVariants.{Continue, Break}
use Rattle.floats.specs.Magnitude.{max_of}
use Rattle.floats.specs.Ops.{◌⊗◌, ten, tenth, 1e-10, 1e-15}
use Rattle.normal.specs.Half.{triangle}
use Rattle.normal.specs.Normal.{product_of, diag_max_of}
use Rattle.solver.specs.Sums.{norm2_of}
use Rattle.rounds.specs.Problem.{row_count, values_at, jacobian_at, problem_of}
use Rattle.rounds.specs.Solve.{Problem, State, Trial, Tried, Outcome, converged, failed, max_tries, tries_of}
use Rattle.rounds.specs.declared.Fit.{Fit}
use Rattle.rounds.specs.declared.Reason.{Reason}
use Rattle.rounds.specs.declared.Reason.TheVariants.{NothingFree, Spent}
use Rattle.rounds.specs.declared.task.Task.{Task}

-- ---- the steps of `Fit`, each a step of the state that it is part of

abbrev pub started_fit : Float → Fit
started_fit cost = record { cost = cost; mu = 1e-10; polish = 3; iterations = 0; tries = 0; why = NothingFree }

abbrev pub begun_fit : Fit → Fit
begun_fit f = record { cost = f.cost; mu = f.mu; polish = f.polish; iterations = f.iterations + 1; tries = f.tries; why = f.why }

abbrev pub taken_fit : Fit → Float → Fit
taken_fit f cost = record { cost = cost; mu = max_of (f.mu ⊗ tenth) 1e-15; polish = f.polish; iterations = f.iterations; tries = f.tries + 1; why = Spent }

abbrev pub harder_fit : Reason → Fit → Fit
harder_fit w f = record { cost = f.cost; mu = f.mu ⊗ ten; polish = f.polish; iterations = f.iterations; tries = f.tries + 1; why = w }

abbrev pub polished_fit : Fit → Fit
polished_fit f = record { cost = f.cost; mu = f.mu; polish = f.polish - 1; iterations = f.iterations; tries = f.tries; why = f.why }

-- ---- what is posed

abbrev pub rows_in : Task → ℕ
rows_in p = row_count p.equations.now p.chosen.now

abbrev pub values_in : Task → List Float → List Float
values_in p = values_at p.equations.now p.lines.now p.places.now p.chosen.now

abbrev pub jacobian_in : Task → List Float → List Float
jacobian_in p = jacobian_at p.equations.now p.lines.now p.places.now p.chosen.now p.columns.now (length p.free.now)

abbrev pub problem_in : Task → Problem
problem_in p = problem_of p.equations.now p.lines.now p.places.now p.chosen.now p.free.now (rows_in p)

-- ---- an attempt

-- the trial whose coordinates and residuals lie in two slices
abbrev pub trial_made : List Float → List Float → Trial
trial_made xn rn = record { x = xn; r = rn; cost = norm2_of rn }

-- ---- a round's tries

-- how long the slices of a problem are: its residuals and its Jacobian
pub record Shapes (p : Task) (j r : List Float) : Type 0 where
  pub counted : length r ≡ rows_in p
  pub few : rows_in p ≤ 80
  pub jacobian-long : length j ≡ rows_in p * length p.free.now

-- those of a round: the half of the product, and its working copy
pub record Matrices (p : Task) (h w : List Float) : Type 0 where
  pub half-long : length h ≡ triangle (rows_in p)
  pub work-long : length w ≡ rows_in p * rows_in p

-- and those of a trial
pub record Trying (x r xn rn : List Float) : Type 0 where
  pub trial-long : length xn ≡ length x
  pub values-long : length rn ≡ length r

-- the tries with the Jacobian j, from the state s on
abbrev pub tries_at : Problem → List Float → State → Tried
tries_at P j s = let a = product_of P.rows (length P.free) j in tries_of P j a (diag_max_of P.rows a) max_tries s

-- ---- a round

-- the residuals r are those at x
abbrev pub Own : Task → List Float → List Float → Type 0
Own p x r = r ≡ values_in p x

-- by whether the fit is within the tolerance and a try was taken: the end, converged or failed, or where the next round begins
abbrev pub step_of : Bool → Result Fit Fit → ControlFlow (Result Fit Fit) Fit
step_of true (Ok f) = cond (eqb f.polish 0) (Break (Ok f)) (Continue (polished_fit f))
step_of true (Err f) = Break (Ok f)
step_of false (Ok f) = Continue f
step_of false (Err f) = Break (Err f)

-- where a fit has ended, with its coordinates in a slice
abbrev pub ended_of : List Float → Result Fit Fit → Outcome
ended_of x (Ok f) = converged x f.iterations f.tries
ended_of x (Err f) = failed f.why f.iterations f.tries
