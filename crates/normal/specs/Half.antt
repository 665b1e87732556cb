-- The lower half of a square matrix, row after row (document 02, K9): of row i its first i + 1 numbers, so that (i, k) with k ≤ i is at
-- i(i + 1)/2 + k.
use Rattle.std.specs.Prelude.{ℕ, zero, suc, ◌+◌, ◌*◌, ◌/◌, ◌≤◌, ◌<◌, List, [], ◌++◌, ◌≡◌, Float, length, get_or, take, drop, replicate}
use Rattle.std.specs.Float.{nan}
use Rattle.floats.specs.Magnitude.{max_of}
use Rattle.floats.specs.Ops.{zero⁺, 1e-300}
use Rattle.loops.specs.Turns.{up_to}
use Rattle.normal.specs.Normal.{set_both, product_of, diag_max_of}

-- how many numbers i rows have, which is where row i begins
unfoldable pub triangle : ℕ → ℕ
triangle i = i * (i + 1) / 2

abbrev pub half_place : ℕ → ℕ → ℕ
half_place i k = triangle i + k

-- the half of a matrix of so many columns: its first n rows
unfoldable pub half_rows : ℕ → List Float → ℕ → List Float
half_rows columns a zero = []
half_rows columns a (suc i) = half_rows columns a i ++ take (i + 1) (drop (i * columns) a)

abbrev pub half_of : ℕ → List Float → List Float
half_of rows a = half_rows rows a rows

-- a half spread: each of its numbers goes to (i, k) and to (k, i)
unfoldable pub spread_one : ℕ → List Float → ℕ → ℕ → List Float → List Float
spread_one rows h i k a = set_both rows i k (get_or h (half_place i k) nan) a

unfoldable pub spread_row : ℕ → List Float → ℕ → List Float → List Float
spread_row rows h i a = up_to (i + 1) 0 (spread_one rows h i) a

unfoldable pub spread_of : ℕ → List Float → List Float
spread_of rows h = up_to rows 0 (spread_row rows h) (replicate (rows * rows) zero⁺)

-- the largest number on the diagonal, read from the half
unfoldable pub max_in_half : List Float → ℕ → Float → Float
max_in_half h i m = max_of m (get_or h (half_place i i) nan)

unfoldable pub half_largest_of : ℕ → List Float → Float
half_largest_of rows h = up_to rows 0 (max_in_half h) zero⁺

unfoldable pub half_max_of : ℕ → List Float → Float
half_max_of rows h = max_of (half_largest_of rows h) 1e-300

-- ---- what the layout holds

-- h holds the matrix a by its half
pub record HalfHolds (rows : ℕ) (a h : List Float) : Type 0 where
  -- at the place of (i, k) the matrix's number there, and at that of (k, i)
  pub below : (i k : ℕ) → k ≤ i → i < rows → get_or h (half_place i k) nan ≡ get_or a (i * rows + k) nan
  pub above : (i k : ℕ) → k ≤ i → i < rows → get_or h (half_place i k) nan ≡ get_or a (k * rows + i) nan
  -- spread, it is the matrix
  pub spread : spread_of rows h ≡ a
  -- its diagonal's largest is the matrix's
  pub largest : half_max_of rows h ≡ diag_max_of rows a

-- document 02, K9: the half of a product of so many rows has rows(rows + 1)/2 numbers and holds the product by them, whatever lies behind
abbrev pub SameNumbers : Type 0
SameNumbers = (rows nf : ℕ) (j rest : List Float) → (length (half_of rows (product_of rows nf j)) ≡ triangle rows)
    × HalfHolds rows (product_of rows nf j) (half_of rows (product_of rows nf j) ++ rest)
