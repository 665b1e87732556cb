-- The lesser exchange, which is the code's: where two rows change places, what lies left of the pivot column stays where it is. The
-- definition (specs/Steps.antt) is the Rust's, which exchanges whole rows. That both come to one solution, or to none for one reason, is said
-- here and proved in proofs/Lesser.antt.
use Rattle.std.specs.Prelude.{ℕ, ◌+◌, ◌*◌, ◌≤◌, ◌<◌, cond, List, ◌⊎◌, ◌≡◌, eqb, length, Float}
use Rattle.floats.specs.Lists.{swap_at}
use Rattle.loops.specs.Turns.{Try, go, stop, InStep, up_to, try_to}
use Rattle.solver.specs.Reasons.{Reasoned, on_some, columns_from, if_finite, reasoned_of}
use Rattle.solver.specs.Steps.{Sys, sys, at, scale_of, pivot_of, swap_column, below_of, singular, column_of, back_of}

-- the rows piv and col of a matrix change places from column col on
unfoldable pub part_swapped : ℕ → ℕ → ℕ → List Float → List Float
part_swapped n col piv a = up_to n col (swap_column n piv col) a

-- `swapped`, `column_of` and the columns with that exchange
unfoldable pub lesser_swapped : ℕ → ℕ → ℕ → Sys → Sys
lesser_swapped n col piv (sys a b) = cond (eqb piv col) (sys a b) (sys (part_swapped n col piv a) (swap_at piv col b))

unfoldable pub lesser_column : ℕ → Float → ℕ → Sys → Try Sys
lesser_column n scale col (sys a b) = cond (singular n scale col a) stop (go (below_of n col (lesser_swapped n col (pivot_of n col a) (sys a b))))

unfoldable pub lesser_eliminated : ℕ → Sys → Reasoned Sys
lesser_eliminated n (sys a b) = columns_from (lesser_column n (scale_of a)) n 0 (sys a b)

-- whether row r, column c is still read when column col is come to: it lies from that column on, or on or above the diagonal
abbrev pub StillRead : ℕ → ℕ → ℕ → Type 0
StillRead col r c = (col ≤ c) ⊎ (r ≤ c)

-- two matrices of one length that agree at every such place
pub record ReadAlike (n col : ℕ) (a a' : List Float) : Type 0 where
  pub long : length a ≡ length a'
  pub same : (r c : ℕ) → c < n → StillRead col r c → at a (r * n + c) ≡ at a' (r * n + c)

-- and their right sides are one
abbrev pub SysAlike : ℕ → ℕ → Sys → Sys → Type 0
SysAlike n col (sys a b) (sys a' b') = ReadAlike n col a a' × (b ≡ b')

-- When k columns are done, both were stopped before, or the two matrices agree at every place that is still read, and the right sides
-- are one.
abbrev pub StepsAgree : Type 0
StepsAgree = (n k : ℕ) (scale : Float) (s : Sys) → k ≤ n → InStep (SysAlike n k) (try_to k 0 (column_of n scale) s) (try_to k 0 (lesser_column n scale) s)

-- So elimination with the lesser exchange comes to the definition's solution, or to none for the same reason, for any floats at all.
abbrev pub SameElimination : Type 0
SameElimination = (n : ℕ) (a b : List Float) → on_some (lesser_eliminated n (sys a b)) (λ s. if_finite (back_of n s)) ≡ reasoned_of n a b
