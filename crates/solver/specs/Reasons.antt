-- Why elimination has no answer (document 02, K6): there is no pivot in a column, or a result is not finite. The steps are those of
-- specs/Steps.antt, which are the Rust's and know no reason; that the answer with its reason forgotten is the Rust's `Option`, and that the
-- column named is the first without a pivot, is said here and proved in proofs/Reasons.antt.
use Rattle.std.specs.Prelude.{ℕ, zero, suc, ◌+◌, ◌≤◌, ◌<◌, true, false, cond, List, ◌↔◌, ◌≡◌, Float}
use Rattle.std.specs.Float.Ieee.Scale.{finite}
use Rattle.loops.specs.Turns.{Try, go, stop, try_to, every}
use Rattle.solver.specs.Steps.{Sys, sys, scale_of, singular, column_of, back_of, solution_of}

-- an answer, no pivot in a column, counted from 1, or a result that is not finite
pub data Reasoned (A : Type 0) : Type 0 where
  some : A → Reasoned A
  no_pivot : ℕ → Reasoned A
  not_finite : Reasoned A

-- what comes next goes on from an answer
abbrev pub on_some : {A B : Type 0} → Reasoned A → (A → Reasoned B) → Reasoned B
on_some (some x) next = next x
on_some (no_pivot c) next = no_pivot c
on_some not_finite next = not_finite

-- the reason forgotten
abbrev pub option_of : {A : Type 0} → Reasoned A → Try A
option_of (some x) = go x
option_of (no_pivot c) = stop
option_of not_finite = stop

-- a turn of the loop over the columns: where it is stopped, there is no pivot
abbrev pub or_no_pivot : Try Sys → ℕ → (Sys → Reasoned Sys) → Reasoned Sys
or_no_pivot (go s) col next = next s
or_no_pivot stop col next = no_pivot (col + 1)

-- the k columns from col on, by the turn f
unfoldable pub columns_from : (ℕ → Sys → Try Sys) → ℕ → ℕ → Sys → Reasoned Sys
columns_from f zero col s = some s
columns_from f (suc k) col s = or_no_pivot (f col s) col (columns_from f k (col + 1))

unfoldable pub if_finite : List Float → Reasoned (List Float)
if_finite y = cond (every finite y) (some y) not_finite

-- `solution_of` with its reason
unfoldable pub reasoned_of : ℕ → List Float → List Float → Reasoned (List Float)
reasoned_of n a b = on_some (columns_from (column_of n (scale_of a)) n 0 (sys a b)) (λ s. if_finite (back_of n s))

-- ---- with the reason forgotten, the Rust's answer

abbrev pub Forgotten : Type 0
Forgotten = (n : ℕ) (a b : List Float) → option_of (reasoned_of n a b) ≡ solution_of n a b

-- ---- which column is named

abbrev pub matrix_of : Sys → List Float
matrix_of (sys a b) = a

-- column col is come to at the system s, every column before it having had its pivot
abbrev pub ComesTo : ℕ → List Float → List Float → ℕ → Sys → Type 0
ComesTo n a b col s = try_to col 0 (column_of n (scale_of a)) (sys a b) ≡ go s

-- column col is come to, and has a pivot; or has none
pub record Pivots (n : ℕ) (a b : List Float) (col : ℕ) : Type 0 where
  pub at : Sys
  pub comes : ComesTo n a b col at
  pub pivot : singular n (scale_of a) col (matrix_of at) ≡ false

pub record Lacks (n : ℕ) (a b : List Float) (col : ℕ) : Type 0 where
  pub at : Sys
  pub comes : ComesTo n a b col at
  pub no-pivot : singular n (scale_of a) col (matrix_of at) ≡ true

-- the column that is named, counted from 1, is singular, and none before it is
abbrev pub FirstColumn : Type 0
FirstColumn = (n : ℕ) (a b : List Float) (col : ℕ)
    → reasoned_of n a b ≡ no_pivot (col + 1) ↔ (col < n) × Lacks n a b col × ((k : ℕ) → k < col → Pivots n a b k)

-- not finite: every column has its pivot, and some result is not finite
abbrev pub NotFiniteExactly : Type 0
NotFiniteExactly = (n : ℕ) (a b : List Float)
    → reasoned_of n a b ≡ not_finite ↔ (s : Sys) × ComesTo n a b n s × (every finite (back_of n s) ≡ false)

-- and a column that is named is one of the n, counted from 1
abbrev pub ColumnNamed : Type 0
ColumnNamed = (n : ℕ) (a b : List Float) (c : ℕ) → reasoned_of n a b ≡ no_pivot c → (0 < c) × (c ≤ n)
