-- The half of the product holds the product.
--     halves         where the rows of a half lie, the set for `search`
--     few-places     how many numbers a half has at most
--     written        what is written one number after another is the half of the product
--     same_numbers   document 02's sentence
-- Assumes nothing.
use Prim.Native.Nat.{ℕ, zero, suc, ◌+◌, ◌*◌, ◌≤◌, ◌<◌}
use mathlib.Core.List.{List, [], ◌∷◌, ◌++◌, append-nil, append_assoc}
use mathlib.Core.Path.{◌≡◌, refl, sym, ap, ◌∙◌}
use native.Mathlib.Decide.{dec_lt}
use native.Mathlib.Nat.{le_refl, add-zero, mul-le-mul, add-mul, mul-add}
use native.Mathlib.Numerals.{add-one}
use native.Mathlib.Omega.{arith}
use lib.Ieee.{Float, nan}
use lib.ListN.{length, get_or, take, drop, length-append, length-drop, get_or-append}
use lib.Seq.{length-take-le, take_all, take-suc, drop-cons, get_or-take, get_or-drop, set_at}
use mir.Syntax.{w64}
use mir.Val.{Fits}
use Rattle.floats.specs.Magnitude.{max_of}
use Rattle.floats.specs.Ops.{zero⁺, 1e-300}
use Rattle.loops.specs.Turns.{up_to}
use Rattle.loops.proofs.Both.{up_to-same}
use Rattle.loops.proofs.Cells.{cell_row}
use Rattle.loops.proofs.Keeps.{up_to-keeps}
use Rattle.loops.proofs.Parts.{get-past}
use Rattle.normal.specs.Half.{triangle, half_place, half_rows, half_of, max_in_half, half_largest_of, half_max_of, SameNumbers}
use Rattle.normal.specs.Inside.{put_one, put_row}
use Rattle.normal.specs.Normal.{rows_product, product_of, max_on_diagonal, largest_of, diag_max_of}
use Rattle.normal.proofs.Mirrors.{product-made, back}

-- ---- where the rows of a half begin

triangle-next : (i : ℕ) → triangle (i + 1) ≡ triangle i + (i + 1)
unfolding triangle
triangle-next i =
    let e : (i + 1) * (i + 1 + 1) ≡ i * (i + 1) + 2 * (i + 1) = add-mul i 1 (i + 1 + 1) ∙ rw (mul-add i (i + 1) 1) (omega arith) in
    rw e (omega arith)

triangle-grows : (m n : ℕ) → m ≤ n → triangle m ≤ triangle n
unfolding triangle
triangle-grows m n h = let k : m * (m + 1) ≤ n * (n + 1) = mul-le-mul h (omega (arith, h)) in omega (arith, k)

-- row i of a half of n rows
row_in : (n i : ℕ) → i < n → triangle i + (i + 1) ≤ triangle n
row_in n i h = rw (← triangle-next i) (triangle-grows (i + 1) n (omega (arith, h)))

pub few-places : (n : ℕ) → n ≤ 80 → triangle n ≤ 3240
unfolding triangle
few-places n h = triangle-grows n 80 h

-- number k of a row that begins at t, in a slice that has room for the half
pub half_in : (n i k t : ℕ) (h : List Float) → t ≡ triangle i → i < n → k < i + 1 → triangle n ≤ length h → t + k < length h
half_in n i k t h e l q room = rw e (omega (arith, row_in n i l, q, room))

pub half-fits : (n i k t : ℕ) → t ≡ triangle i → i < n → n ≤ 80 → k < i + 1 → Fits w64 (t + k)
half-fits n i k t e l few q = rw e (record { fits = omega (arith, row_in n i l, q, few-places n few) })

pub ruleset halves = (half_in, half-fits)

none : 0 ≡ triangle 0
unfolding triangle
none = refl

-- ---- the half of a matrix

module _ (rows : ℕ) (a : List Float) (room : rows * rows ≤ length a) where
  row-long : (i : ℕ) → i < rows → length (take (i + 1) (drop (i * rows) a)) ≡ i + 1
  row-long i h = length-take-le (i + 1) (drop (i * rows) a) (rw length-drop (omega (arith, cell_row rows rows i (length a) h room, h)))

  half-next : (i : ℕ) → half_rows rows a (i + 1) ≡ half_rows rows a i ++ take (i + 1) (drop (i * rows) a)
  unfolding half_rows
  half-next i = ap (half_rows rows a) (add-one i)

  half-long : (n : ℕ) → n ≤ rows → length (half_rows rows a n) ≡ triangle n
  unfolding half_rows
  half-long zero h = none
  half-long (suc n) h = length-append (half_rows rows a n) (take (n + 1) (drop (n * rows) a)) ∙ rw (half-long n (omega (arith, h)), row-long n (omega (arith, h)), ← triangle-next n, add-one)

  half_at : (n i k : ℕ) → n ≤ rows → i < n → k ≤ i → get_or (half_rows rows a n) (half_place i k) nan ≡ get_or a (i * rows + k) nan
  unfolding half_rows
  half_at zero i k h l o = absurd (omega (arith, l))
  half_at (suc n) i k h l o =
      let long : length (half_rows rows a n) ≡ triangle n = half-long n (omega (arith, h)) in
      elim (dec_lt i n) [
        | yes q ↦ get_or-append (half_rows rows a n) (take (n + 1) (drop (n * rows) a)) nan (half_place i k) (rw long (omega (arith, row_in n i q, o))) ∙ half_at n i k (omega (arith, h)) q o
        | no q ↦ (let e : i ≡ n = omega (arith, l, q) in
            rw e (get-past (half_rows rows a n) (take (n + 1) (drop (n * rows) a)) (triangle n) k nan long ∙ get_or-take (n + 1) (drop (n * rows) a) k nan (omega (arith, e, o)) ∙ get_or-drop (n * rows) a k nan))
      ]

  -- and with anything behind it
  held : (rest : List Float) (i k : ℕ) → i < rows → k ≤ i → get_or (half_of rows a ++ rest) (half_place i k) nan ≡ get_or a (i * rows + k) nan
  held rest i k h o =
      get_or-append (half_of rows a) rest nan (half_place i k) (rw (half-long rows (le_refl rows)) (omega (arith, row_in rows i h, o))) ∙ half_at rows i k (le_refl rows) h o

  largest-held : (rest : List Float) → half_max_of rows (half_of rows a ++ rest) ≡ diag_max_of rows a
  unfolding half_max_of diag_max_of half_largest_of largest_of max_in_half max_on_diagonal
  largest-held rest =
      ap (λ m. max_of m 1e-300) (up_to-same (max_in_half (half_of rows a ++ rest)) (max_on_diagonal rows a) 0 rows (λ i m l h. ap (max_of m) (held rest i i h (le_refl i))) zero⁺)

-- ---- the half as it is written

module _ (rows nf : ℕ) (j h : List Float) (room : triangle rows ≤ length h) where
  abbrev P : List Float
  P = product_of rows nf j

  P-room : rows * rows ≤ length P
  P-room = rw (product-made rows nf j).long (le_refl _)

  abbrev row_of : ℕ → List Float
  row_of i = take (i + 1) (drop (i * rows) P)

  -- what there is before number k of row i
  abbrev done : ℕ → ℕ → List Float
  done i k = half_rows rows P i ++ take k (row_of i)

  done-long : (i k : ℕ) → i < rows → k ≤ i + 1 → length (done i k) ≡ half_place i k
  done-long i k l q =
      length-append (half_rows rows P i) (take k (row_of i))
      ∙ rw (half-long rows P P-room i (omega (arith, l)), length-take-le k (row_of i) (rw (row-long rows P P-room i l) q))

  -- its number k is the product of rows k and i
  row_number : (i k : ℕ) → i < rows → k < i + 1 → get_or (row_of i) k nan ≡ rows_product nf j k i
  row_number i k l q =
      get_or-take (i + 1) (drop (i * rows) P) k nan q ∙ get_or-drop (i * rows) P k nan ∙ ((product-made rows nf j).cells k i (omega (arith, q)) l l).1

  done_more : (i k : ℕ) → i < rows → k < i + 1 → done i (k + 1) ≡ done i k ++ (rows_product nf j k i ∷ [])
  done_more i k l q =
      let inside : k < length (row_of i) = rw (row-long rows P P-room i l) q in
      rw (add-one, take-suc (row_of i) k nan inside, row_number i k l q) (sym (append_assoc (half_rows rows P i) (take k (row_of i)) (rows_product nf j k i ∷ [])))

  one_written : (i k : ℕ) (s : List Float) → i < rows → k < i + 1 → s ≡ done i k ++ drop (half_place i k) h → put_one nf j i k s ≡ done i (k + 1) ++ drop (half_place i (k + 1)) h
  unfolding put_one
  one_written i k s l q e =
      let inside : half_place i k < length h = omega (arith, row_in rows i l, q, room) in
      let v = rows_product nf j k i in
      let next : half_place i (k + 1) ≡ suc (half_place i k) = omega arith in
      rw (e, drop-cons h (half_place i k) nan inside, done_more i k l q, next)
      (set_at (done i k) _ _ v (half_place i k) (done-long i k l (omega (arith, q))) ∙ sym (append_assoc (done i k) (v ∷ []) (drop (suc (half_place i k)) h)))

  row_written : (i : ℕ) (s : List Float) → i < rows → s ≡ half_rows rows P i ++ drop (triangle i) h → put_row nf j i s ≡ half_rows rows P (i + 1) ++ drop (triangle (i + 1)) h
  unfolding put_row
  row_written i s l e =
      let start : s ≡ done i 0 ++ drop (half_place i 0) h = e ∙ rw (append-nil, add-zero) in
      let full : length (row_of i) ≤ i + 1 = rw (row-long rows P P-room i l) (le_refl _) in
      up_to-keeps (λ k s. s ≡ done i k ++ drop (half_place i k) h) (put_one nf j i) (i + 1) (λ k s q e. one_written i k s l q e) 0 s (omega arith) start
      ∙ rw (take_all (i + 1) (row_of i) full, triangle-next i, half-next rows P P-room i)

  pub written : up_to rows 0 (put_row nf j) h ≡ half_of rows P ++ drop (triangle rows) h
  unfolding half_rows
  written = up_to-keeps (λ i s. s ≡ half_rows rows P i ++ drop (triangle i) h) (put_row nf j) rows (λ i s l e. row_written i s l e) 0 h (omega arith) (rw (← none))

pub same_numbers : SameNumbers
same_numbers rows nf j rest =
    let P = product_of rows nf j in
    let made = product-made rows nf j in
    let room : rows * rows ≤ length P = rw made.long (le_refl _) in
    let f = rows_product nf j in
    let has : (lo hi : ℕ) → lo ≤ hi → hi < rows → get_or (half_of rows P ++ rest) (half_place hi lo) nan ≡ f lo hi = λ lo hi l k. held rows P room rest hi lo k l ∙ (made.cells lo hi l k k).1 in (
      half-long rows P room rows (le_refl rows),
      record {
        below = λ i k o h. held rows P room rest i k h o;
        above = λ i k o h. has k i o h ∙ sym (made.cells k i o h h).0;
        spread = back rows f (half_of rows P ++ rest) P has made;
        largest = largest-held rows P room rest;
      },
    )
