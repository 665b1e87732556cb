-- The problem that chosen equations pose: equations.rs, `residuals`, and solver.rs, `dense`, as lists. `chosen` are the numbers of
-- the equations, `places` and `columns` the tables of a point's place in the group and of a coordinate's among the free ones.
use Rattle.std.specs.Prelude.{ℕ, ◌+◌, true, false, Float, replicate, Result, Ok, Err}
use mathlib.Core.List.{List, map, flat_map}
use Rattle.floats.specs.Ops.{zero⁺}
use Rattle.loops.specs.Turns.{fold}
use Rattle.rows.specs.Column.{equation_at, rows_at}
use Rattle.slopes.specs.Dense.{add_entry}
use Rattle.rows.specs.Entries.{Row}
use Rattle.rows.specs.declared.Entry.{Entry}
use Rattle.sketch.specs.Rows.{rows_of}
use Rattle.sketch.specs.declared.Active.{Active}
use Rattle.sketch.specs.declared.Line.{Line}
use Rattle.rounds.specs.Solve.{Problem, State, Tried}
use Rattle.rounds.specs.declared.Fit.{Fit}

-- the Rust's `r.len()`, which the coordinates have no part in
unfoldable pub more_rows : List Active → ℕ → ℕ → ℕ
more_rows es n k = n + rows_of (equation_at es k)

unfoldable pub row_count : List Active → List ℕ → ℕ
row_count es chosen = fold (more_rows es) 0 chosen

-- a row of the Jacobian, from +0.0
unfoldable pub dense_row : List ℕ → List ℕ → ℕ → List Entry → List Float
dense_row places columns n es = fold (add_entry places columns n 0) (replicate n zero⁺) es

module _ (es : List Active) (ls : List Line) (places chosen : List ℕ) where
  unfoldable pub rows_for : List Float → List Row
  rows_for x = flat_map (rows_at es ls places x) chosen

  unfoldable pub values_at : List Float → List Float
  values_at x = map (λ (row : Row). row.value) (rows_for x)

  unfoldable pub jacobian_at : List ℕ → ℕ → List Float → List Float
  jacobian_at columns n x = flat_map (λ (row : Row). dense_row places columns n row.entries) (rows_for x)

  -- `rows` is `row_count es chosen`
  abbrev pub problem_of : List ℕ → ℕ → Problem
  problem_of free rows = record { values = values_at; rows = rows; free = free }

-- the state, as the code holds it: coordinates and residuals in slices, the rest by value
abbrev pub state_of : List Float → List Float → Fit → State
state_of x r f = record {
  x = x;
  r = r;
  cost = f.cost;
  mu = f.mu;
  polish = f.polish;
  iterations = f.iterations;
  tries = f.tries;
  why = f.why;
}

-- a try, or a round's tries: where one that was taken leaves the fit, or where it stands if none was
abbrev pub tried_of : List Float → List Float → Result Fit Fit → Tried
tried_of x r (Ok f) = record { improved = true; state = state_of x r f }
tried_of x r (Err f) = record { improved = false; state = state_of x r f }
