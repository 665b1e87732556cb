-- Only the code's layout: what its private calls do to the one list in which the rows of n lie one after another. The definition is in
-- Steps; that these come to the same is proved in proofs/, by `flatten`. What the Rust keeps in `reflectors` and in `cols` from k on lies in
-- one list: a column before k is not read again, so the reflector that was made of it stands in its place. A turn is about t, the list from
-- row k on, which has m rows.
use Rattle.std.specs.Prelude.{ℕ, ◌+◌, ◌-◌, ◌*◌, ◌≤◌, ◌<◌, min, Bool, true, cond, not, ◌&&◌, List, [], ◌++◌, ◌≡◌, ltb, eqb, take, drop, set, replicate, Float, Option, Some, None, is_some}
use Rattle.std.specs.Float.Ieee.{eq, ne}
use Rattle.floats.specs.Lists.{swap_at}
use Rattle.floats.specs.Magnitude.{magnitude_of}
use Rattle.floats.specs.Ops.{◌⊕◌, ◌⊗◌, ◌⊘◌, zero⁺, zero⁻, one, two}
use Rattle.loops.specs.Turns.{up_to, down_to, while_to}
use Rattle.root.specs.Root.{sqrt_of}
use Rattle.solver.specs.Steps.{at, less_past}
use Rattle.solver.specs.Sums.{norm2_of}
use Rattle.nullspace.specs.Steps.{row_at, unit_at, reflect_of, ended, away}
use Rattle.nullspace.specs.declared.qr.Column.{Column}

-- the scaled rows one after another
unfoldable pub add_unit : ℕ → List Float → ℕ → List Float → List Float
add_unit n m i w = w ++ unit_at n m i

unfoldable pub unit_rows : ℕ → ℕ → List Float → List Float
unit_rows rows n m = up_to rows 0 (add_unit n m) []

-- `reflect` by index, on lists of their own
unfoldable pub add_product : List Float → List Float → ℕ → Float → Float
add_product v c i s = s ⊕ at v i ⊗ at c i

-- and where v is the first row of the list, and c the row j
unfoldable pub add_product_at : ℕ → ℕ → List Float → ℕ → Float → Float
add_product_at n j t i s = s ⊕ at t i ⊗ at t (j * n + i)

unfoldable pub dot_at : ℕ → ℕ → List Float → Float
dot_at n j t = up_to n 0 (add_product_at n j t) zero⁻

unfoldable pub less_row_at : ℕ → ℕ → Float → List Float → List Float
less_row_at n j f t = cond (ne f zero⁺) (up_to n 0 (less_past (j * n) f) t) t

unfoldable pub reflect_at : ℕ → Float → ℕ → List Float → List Float
reflect_at n vv j t = less_row_at n j (two ⊗ dot_at n j t ⊘ vv) t

-- what is left of the row j from k on, and the longest row
unfoldable pub norm_at : ℕ → ℕ → List Float → ℕ → Float
norm_at n k t j = sqrt_of (norm2_of (take (n - k) (drop (j * n + k) t)))

unfoldable pub longer_row : ℕ → ℕ → List Float → ℕ → ℕ → ℕ
longer_row n k t q p = cond (ltb (magnitude_of (norm_at n k t p)) (magnitude_of (norm_at n k t q))) q p

unfoldable pub longest_of : ℕ → ℕ → ℕ → List Float → ℕ
longest_of n m k t = up_to m 1 (longer_row n k t) 0

-- the reflector, at the head of t, and each later row reflected
unfoldable pub swap_head : ℕ → ℕ → ℕ → List Float → List Float
swap_head n p c t = swap_at (p * n + c) c t

unfoldable pub reflector_at : ℕ → ℕ → ℕ → Float → List Float → List Float
reflector_at n k best norm t = away k norm (replicate k zero⁺ ++ drop k (up_to n 0 (swap_head n best) t))

unfoldable pub reflected_by : ℕ → ℕ → Float → List Float → List Float
reflected_by n m vv t = up_to m 1 (reflect_at n vv) t

-- The turn of k: the longest row's norm; the list with the reflector at its head; whether it goes on, by the norm and by `vv`; what
-- `first` is then; and what it leaves.
unfoldable pub largest_norm : ℕ → ℕ → ℕ → List Float → Float
largest_norm n m k t = norm_at n k t (longest_of n m k t)

unfoldable pub begun : ℕ → ℕ → ℕ → List Float → List Float
begun n m k t = reflector_at n k (longest_of n m k t) (largest_norm n m k t) t

unfoldable pub turns-on : ℕ → ℕ → ℕ → Float → List Float → Bool
turns-on n m k first t = not (ended first (largest_norm n m k t)) && not (eq (norm2_of (take n (begun n m k t))) zero⁺)

unfoldable pub first_norm_of : ℕ → ℕ → ℕ → Float → List Float → Float
first_norm_of n m k first t = cond (eqb k 0) (largest_norm n m k t) first

unfoldable pub turned : ℕ → ℕ → ℕ → List Float → List Float
turned n m k t = reflected_by n m (norm2_of (take n (begun n m k t))) (begun n m k t)

-- between two turns: the reflectors so far, the first norm, which is +0.0 before there is one, and the list
pub data LaidQr : Type 0 where
  laid : ℕ → Float → List Float → LaidQr

unfoldable pub laid_on : ℕ → ℕ → ℕ → LaidQr → Bool
laid_on rows n k (laid rank first w) = turns-on n (rows - k) k first (drop (k * n) w)

unfoldable pub laid_turn : ℕ → ℕ → ℕ → LaidQr → LaidQr
laid_turn rows n k (laid rank first w) =
    laid (k + 1) (first_norm_of n (rows - k) k first (drop (k * n) w)) (take (k * n) w ++ turned n (rows - k) k (drop (k * n) w))

unfoldable pub laid_out : ℕ → ℕ → List Float → LaidQr
laid_out rows n w = while_to (min n rows) 0 (laid_on rows n) (laid_turn rows n) (laid 0 zero⁺ w)

-- the first rank rows are the reflectors
abbrev pub laid_rank : LaidQr → ℕ
laid_rank (laid rank first w) = rank

abbrev pub laid_reflectors : ℕ → LaidQr → List Float
laid_reflectors n (laid rank first w) = take (rank * n) w

-- the basis vector of j by the reflectors in the rows of w, and the vectors one after another
unfoldable pub reflect_by_row : ℕ → List Float → ℕ → List Float → List Float
reflect_by_row n w r e = reflect_of (row_at n r w) (norm2_of (row_at n r w)) e

unfoldable pub laid_vector : ℕ → ℕ → List Float → ℕ → List Float
laid_vector n rank w j = down_to rank (reflect_by_row n w) (set (replicate n zero⁺) j one)

unfoldable pub add_vector : ℕ → ℕ → List Float → ℕ → List Float → List Float
add_vector n rank w j l = l ++ laid_vector n rank w j

unfoldable pub laid_basis : ℕ → ℕ → List Float → List Float
laid_basis n rank w = up_to n rank (add_vector n rank w) []

-- ---- what private calls promise

-- a row with its remaining norm, one of m
pub record Measured (n m k : ℕ) (t : List Float) (p : Column) : Type 0 where
  pub within : p.row < m
  pub norm : p.norm ≡ norm_at n k t p.row

-- a turn over k on the list t, which leaves t'
pub record Turned (n m k : ℕ) (first : Float) (t t' : List Float) (r : Option Float) : Type 0 where
  pub next : r ≡ cond (turns-on n m k first t) (Some (first_norm_of n m k first t)) None
  pub left : is_some r ≡ true → t' ≡ turned n m k t

-- the rank, of which no more than rows or columns come out, and the reflectors in the first rows of w'
pub record Decomposes (rows n : ℕ) (w w' : List Float) (r : ℕ) : Type 0 where
  pub bounded : r ≤ min n rows
  pub rank : r ≡ laid_rank (laid_out rows n w)
  pub reflectors : take (r * n) w' ≡ laid_reflectors n (laid_out rows n w)
