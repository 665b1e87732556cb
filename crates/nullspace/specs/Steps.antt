-- solver.rs, `null_space` and `reflect`, line by line, on a bare matrix whose rows of n numbers lie in a list one after another. `rel` is
-- 1e-10; Jᵀ's columns are the matrix's rows, so `cols` and `reflectors` are lists of lists of n numbers.
use Rattle.std.specs.Prelude.{ℕ, ◌+◌, ◌*◌, min, Bool, true, false, cond, ◌||◌, ltb, length, get_or, take, drop, set, replicate, Float}
use mathlib.Core.List.{List, [], ◌∷◌, ◌++◌, foldr, map, zip_with}
use Rattle.std.proofs.Math.Option
use Rattle.std.proofs.Math.Option.{Option, none, some}
use Rattle.std.specs.Float.Ieee.{neg, eq, ne, lt, le}
use Rattle.floats.specs.Magnitude.{magnitude_of}
use Rattle.floats.specs.Ops.{◌⊕◌, ◌⊖◌, ◌⊗◌, ◌⊘◌, zero⁺, zero⁻, one, two, 1e-10}
use Rattle.loops.specs.Turns.{Try, go, stop, up_to, while_to, fold}
use Rattle.root.specs.Root.{sqrt_of}
use Rattle.solver.specs.Steps.{at}
use Rattle.solver.specs.Sums.{norm2_of}

-- `(lo..hi).map(f).collect()`
unfoldable pub push : (ℕ → List Float) → ℕ → List (List Float) → List (List Float)
push f i l = l ++ f i ∷ []

unfoldable pub collect : ℕ → ℕ → (ℕ → List Float) → List (List Float)
collect lo hi f = up_to hi lo (push f) []

-- `cols[i]`
abbrev pub item : List (List Float) → ℕ → List Float
item l i = get_or l i []

-- `jac[i * nf..(i + 1) * nf]`
abbrev pub row_at : ℕ → ℕ → List Float → List Float
row_at n i m = take n (drop (i * n) m)

-- `if len > 0.0 { row.iter().map(|v| v / len).collect() } else { row }`
unfoldable pub scaled_by : Float → List Float → List Float
scaled_by len row = cond (lt zero⁺ len) (map (λ v. v ⊘ len) row) row

unfoldable pub unit_of : List Float → List Float
unit_of row = scaled_by (sqrt_of (norm2_of row)) row

unfoldable pub unit_at : ℕ → List Float → ℕ → List Float
unit_at n m i = unit_of (row_at n i m)

unfoldable pub cols_of : ℕ → ℕ → List Float → List (List Float)
cols_of rows n m = collect 0 rows (unit_at n m)

-- `reflect(v, vv, c)`, v and c of n numbers both: c less f times v, with f twice their product over vv; a `sum()` starts from −0.0
unfoldable pub dot_of : List Float → List Float → Float
dot_of v c = fold ◌⊕◌ zero⁻ (zip_with ◌⊗◌ v c)

unfoldable pub less_all : List Float → Float → List Float → List Float
less_all v f c = cond (ne f zero⁺) (zip_with (λ ci vi. ci ⊖ f ⊗ vi) c v) c

unfoldable pub reflect_of : List Float → Float → List Float → List Float
reflect_of v vv c = less_all v (two ⊗ dot_of v c ⊘ vv) c

-- `norm2(&cols[j][k..]).sqrt()`
unfoldable pub norm_of : ℕ → List (List Float) → ℕ → Float
norm_of k cols j = sqrt_of (norm2_of (drop k (item cols j)))

-- the column from k on with the largest remaining norm, the lowest index on ties: a later one has to be larger
unfoldable pub longer : ℕ → List (List Float) → ℕ → ℕ → ℕ
longer k cols j best = cond (ltb (magnitude_of (norm_of k cols best)) (magnitude_of (norm_of k cols j))) j best

unfoldable pub best_of : ℕ → List (List Float) → ℕ
best_of k cols = up_to (length cols) (k + 1) (longer k cols) k

-- `norm <= first.unwrap_or(0.0) * rel || norm == 0.0`
unfoldable pub ended : Float → Float → Bool
ended first norm = le norm (first ⊗ 1e-10) || eq norm zero⁺

-- `cols.swap(i, j)`
unfoldable pub swapped : ℕ → ℕ → List (List Float) → List (List Float)
swapped i j cols = set (set cols i (item cols j)) j (item cols i)

-- `v`: zeros before k, then the column's rest; and `v[k] -= if v[k] >= 0.0 { -norm } else { norm }`
unfoldable pub away : ℕ → Float → List Float → List Float
away k norm v = set v k (at v k ⊖ cond (le zero⁺ (at v k)) (neg norm) norm)

unfoldable pub reflector_of : ℕ → Float → List Float → List Float
reflector_of k norm c = away k norm (replicate k zero⁺ ++ drop k c)

-- `for c in cols.iter_mut().skip(k) { reflect(&v, vv, c) }`
unfoldable pub reflect_from : ℕ → List Float → Float → List (List Float) → List (List Float)
reflect_from k v vv cols = take k cols ++ map (reflect_of v vv) (drop k cols)

-- `reflectors`, `first` and `cols`, and the turn of k: it breaks, or goes on with these
pub data Qr : Type 0 where
  qr : List (List Float) → Option Float → List (List Float) → Qr

unfoldable pub turn_of : ℕ → Qr → Try Qr
turn_of k (qr reflectors first cols) =
    let best = best_of k cols in
    let norm = norm_of k cols best in
    let swap = swapped k best cols in
    let v = reflector_of k norm (item swap k) in
    let vv = norm2_of v in
    cond (ended (Option.get_or first zero⁺) norm) stop
    (cond (eq vv zero⁺) stop (go (qr (reflectors ++ v ∷ []) (some (Option.get_or first norm)) (reflect_from k v vv swap))))

-- a turn that breaks leaves all as it is
abbrev pub goes : Try Qr → Bool
goes (go s) = true
goes stop = false

abbrev pub or_as_it_is : Qr → Try Qr → Qr
or_as_it_is s (go s') = s'
or_as_it_is s stop = s

unfoldable pub decomposed : ℕ → List (List Float) → Qr
decomposed n cols = while_to (min n (length cols)) 0 (λ k s. goes (turn_of k s)) (λ k s. or_as_it_is s (turn_of k s)) (qr [] none cols)

abbrev pub reflectors_of : Qr → List (List Float)
reflectors_of (qr reflectors first cols) = reflectors

abbrev pub rank_of : Qr → ℕ
rank_of d = length (reflectors_of d)

-- `e`, a unit vector, and `for v in reflectors.iter().rev() { reflect(v, norm2(v), &mut e) }`: the last one first
unfoldable pub reflect_by : List Float → List Float → List Float
reflect_by v e = reflect_of v (norm2_of v) e

unfoldable pub basis_vector : ℕ → List (List Float) → ℕ → List Float
basis_vector n reflectors j = foldr reflect_by (set (replicate n zero⁺) j one) reflectors

unfoldable pub basis_of : ℕ → List (List Float) → List (List Float)
basis_of n reflectors = collect (length reflectors) n (basis_vector n reflectors)
