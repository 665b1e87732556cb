-- Elimination, solver.rs, `solve_dense`, step by step. The matrix is n × n, row after row: row r, column c is at r * n + c.
use Rattle.std.specs.Prelude.{ℕ, ◌+◌, ◌*◌, Bool, cond, List, ltb, eqb, get_or, set, replicate, Float}
use Rattle.std.specs.Float.{nan}
use Rattle.std.specs.Float.Ieee.{eq, le}
use Rattle.std.specs.Float.Ieee.Scale.{finite}
use Rattle.floats.specs.Lists.{swap_at}
use Rattle.floats.specs.Ops.{◌⊕◌, ◌⊖◌, ◌⊗◌, ◌⊘◌, zero⁺, zero⁻, 1e-15, 1e-300}
use Rattle.floats.specs.Magnitude.{abs_of, max_of, magnitude_of}
use Rattle.loops.specs.Turns.{Try, go, stop, after, up_to, down_to, try_to, fold, every}

-- the matrix and the right side, as they stand between two steps
pub data Sys : Type 0 where
  sys : List Float → List Float → Sys

abbrev pub at : List Float → ℕ → Float
at s i = get_or s i nan

-- `scale`: the largest magnitude, NaN skipped, at least 1e-300
abbrev pub larger_of : Float → Float → Float
larger_of m v = max_of m (abs_of v)

unfoldable pub scale_of : List Float → Float
scale_of a = max_of (fold larger_of zero⁺ a) 1e-300

-- `piv`: the row from col on with the largest magnitude in column col, the lowest one on ties: a later row has to be larger
unfoldable pub larger_row : ℕ → ℕ → List Float → ℕ → ℕ → ℕ
larger_row n col a q p = cond (ltb (magnitude_of (at a (p * n + col))) (magnitude_of (at a (q * n + col)))) q p

unfoldable pub pivot_of : ℕ → ℕ → List Float → ℕ
pivot_of n col a = up_to n (col + 1) (larger_row n col a) col

unfoldable pub swap_column : ℕ → ℕ → ℕ → ℕ → List Float → List Float
swap_column n p q c a = swap_at (p * n + c) (q * n + c) a

-- the rows piv and col change places, if they are two
unfoldable pub swapped : ℕ → ℕ → ℕ → Sys → Sys
swapped n col piv (sys a b) = cond (eqb piv col) (sys a b) (sys (up_to n 0 (swap_column n piv col) a) (swap_at piv col b))

-- `a[r * n + c] -= f * a[col * n + c]`
unfoldable pub less_at : ℕ → ℕ → ℕ → Float → ℕ → List Float → List Float
less_at n col r f c a = set a (r * n + c) (at a (r * n + c) ⊖ f ⊗ at a (col * n + c))

-- the same on a list that starts at row col, column col, from where row r is off further on
unfoldable pub less_past : ℕ → Float → ℕ → List Float → List Float
less_past off f c s = set s (off + c) (at s (off + c) ⊖ f ⊗ at s c)

-- and on row r apart, with row col beside it
unfoldable pub less_by : List Float → Float → ℕ → List Float → List Float
less_by v f i c = set c i (at c i ⊖ f ⊗ at v i)

-- row r less f times row col, from the pivot column on, and the right side with it; with f zero, nothing
unfoldable pub less_row : ℕ → ℕ → ℕ → Float → Sys → Sys
less_row n col r f (sys a b) = cond (eq f zero⁺) (sys a b) (sys (up_to n col (less_at n col r f) a) (set b r (at b r ⊖ f ⊗ at b col)))

-- row r cleared in column col, by the pivot p
unfoldable pub row_of : ℕ → ℕ → Float → ℕ → Sys → Sys
row_of n col p r (sys a b) = less_row n col r (at a (r * n + col) ⊘ p) (sys a b)

-- every row after col cleared in column col
unfoldable pub below_of : ℕ → ℕ → Sys → Sys
below_of n col (sys a b) = up_to n (col + 1) (row_of n col (at a (col * n + col))) (sys a b)

-- a turn of the loop over the columns: it stops the whole where the pivot is at most the scale times 1e-15
unfoldable pub singular : ℕ → Float → ℕ → List Float → Bool
singular n scale col a = le (abs_of (at a (pivot_of n col a * n + col))) (scale ⊗ 1e-15)

unfoldable pub column_of : ℕ → Float → ℕ → Sys → Try Sys
column_of n scale col (sys a b) = cond (singular n scale col a) stop (go (below_of n col (swapped n col (pivot_of n col a) (sys a b))))

unfoldable pub eliminated_of : ℕ → Sys → Try Sys
eliminated_of n (sys a b) = try_to n 0 (column_of n (scale_of a)) (sys a b)

-- the sum over the columns after r, which starts from −0.0
unfoldable pub add_term : ℕ → ℕ → List Float → List Float → ℕ → Float → Float
add_term n r a y c s = s ⊕ at a (r * n + c) ⊗ at y c

unfoldable pub sum_of : ℕ → ℕ → List Float → List Float → Float
sum_of n r a y = up_to n (r + 1) (add_term n r a y) zero⁻

-- `y[r]`, from the last row to the first
unfoldable pub back_at : ℕ → List Float → List Float → ℕ → List Float → List Float
back_at n a b r y = set y r ((at b r ⊖ sum_of n r a y) ⊘ at a (r * n + r))

unfoldable pub back_of : ℕ → Sys → List Float
back_of n (sys a b) = down_to n (back_at n a b) (replicate n zero⁺)

-- `y.iter().all(|v| v.is_finite()).then_some(y)`
unfoldable pub all_finite : List Float → Try (List Float)
all_finite y = cond (every finite y) (go y) stop

-- the answer, or none
unfoldable pub solution_of : ℕ → List Float → List Float → Try (List Float)
solution_of n a b = after (eliminated_of n (sys a b)) (λ s. all_finite (back_of n s))
