-- What is handed out as a fit is one: at the coordinates of a fit that converged, every residual is within the tolerance. So a
-- failed fit never looks like a fit, and the last trial is never handed back as one.
use Rattle.std.specs.Prelude.{ℕ, true, List, ◌≡◌, Float}
use Rattle.rounds.specs.Solve.{Problem, converged, within, solve_of}

abbrev pub FitHolds : Problem → (List Float → List Float) → Type 0
FitHolds P jacobian = (x x' : List Float) (i t : ℕ) → solve_of P jacobian x ≡ converged x' i t → within (P.values x') ≡ true
