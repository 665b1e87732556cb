-- Rows one after another in a lent slice: the residual column (equations.rs, `residuals`, what `r` holds) of a list of equations.
-- A store past the end of the slice does nothing.
use Rattle.std.specs.Prelude.{ℕ, ◌+◌, cond, List, ltb, Float, length, get_or, set}
use Rattle.loops.specs.Turns.{fold}
use Rattle.sketch.specs.declared.Active.{Active}
use Rattle.sketch.specs.declared.Equation.{Equation}
use Rattle.sketch.specs.declared.Line.{Line}
use Rattle.sketch.specs.Blank.{blank_active}
use Rattle.rows.specs.Located.{at_of}
use Rattle.rows.specs.Entries.{Row}
use Rattle.rows.specs.Kinds.{rows_of_equation}

-- how many rows a slice holds so far, and what is in it
pub data Laid : Type 0 where
  laid : ℕ → List Float → Laid

abbrev pub laid_in : Laid → List Float
laid_in (laid i r) = r

-- ---- the residual column

unfoldable pub next_value : Laid → Row → Laid
next_value (laid i r) row = laid (i + 1) (set r i row.value)

-- ---- a list of equations by their numbers

abbrev pub equation_at : List Active → ℕ → Equation
equation_at es k = (get_or es k blank_active).equation

module _ (es : List Active) (ls : List Line) (places : List ℕ) (x : List Float) where
  unfoldable pub rows_at : ℕ → List Row
  rows_at k = rows_of_equation ls (at_of places x) (equation_at es k)

  unfoldable pub values_next : Laid → ℕ → Laid
  values_next s k = fold next_value s (rows_at k)

  -- more than 40 equations are refused, and nothing is stored
  unfoldable pub column_of : List ℕ → List Float → Laid
  column_of chosen r = cond (ltb 40 (length chosen)) (laid 0 r) (fold values_next (laid 0 r) chosen)
