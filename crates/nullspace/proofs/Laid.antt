-- What the code's layout comes to is what the definition comes to. Assumes nothing.
--     cols-laid       the scaled rows one after another
--     Found, found    the rank, the reflectors one after another, and what the definition's are like
--     basis-laid      the basis vectors one after another
--     basis-read      and as they are read from the head of a list
use Prim.Native.Nat.{ℕ, zero, suc, ◌+◌, ◌-◌, ◌*◌, ◌≤◌, ◌<◌, min}
use mathlib.Core.Bool.{Bool, true, false, cond, not, ◌&&◌, false≢true}
use mathlib.Core.List.{List, [], ◌∷◌, ◌++◌, foldr, map, flatten, append_assoc}
use mathlib.Core.Option.{Option, none, some, get_or}
use mathlib.Core.Path.{◌≡◌, refl, sym, ap, ◌∙◌}
use native.Mathlib.Numerals.{add-one}
use native.Mathlib.Omega.{arith}
use borrow.Author.Tests.{ne_eqb}
use lib.Dec.{eqb}
use lib.ListN.{length, take, drop, set, replicate, length-append, length-drop, length-set, length-map, length-replicate}
use lib.Seq.{length-take-le, take_at, drop_at}
use lib.Ieee.{Float, lt, eq}
use Rattle.floats.specs.Ops.{◌⊘◌, zero⁺, one}
use Rattle.loops.proofs.Picks.{either}
use Rattle.loops.proofs.Cells.{cell_row}
use Rattle.loops.proofs.Both.{up_to-both, while_to-both, down_to-same, down_to-foldr}
use Rattle.loops.proofs.Keeps.{up_to-keeps}
use Rattle.loops.specs.Turns.{go, stop, up_to}
use Rattle.root.specs.Root.{sqrt_of}
use Rattle.solver.specs.Sums.{norm2_of}
use Rattle.nullspace.specs.Steps.{push, collect, item, row_at, scaled_by, unit_of, unit_at, cols_of, ended, Qr, qr, turn_of, goes, or_as_it_is, decomposed, reflectors_of, rank_of, reflect_by, basis_vector, basis_of}
use Rattle.nullspace.specs.Layout.{add_unit, unit_rows, turns-on, first_norm_of, turned, LaidQr, laid, laid_on, laid_turn, laid_out, laid_rank, laid_reflectors, reflect_by_row, laid_vector, add_vector, laid_basis}
use Rattle.nullspace.proofs.Flat.{Wide, wide-append, flatten-push, length-flatten, row_is, rows_are}
use Rattle.nullspace.proofs.Reflects.{reflect-length}
use Rattle.nullspace.proofs.Turned as turn

-- ---- rows that are collected

collect-laid : (f : ℕ → List Float) (g : ℕ → List Float → List Float) → ((i : ℕ) (w : List Float) → g i w ≡ w ++ f i) → (lo hi : ℕ)
    → up_to hi lo g [] ≡ flatten (collect lo hi f)
unfolding collect push flatten
collect-laid f g one lo hi = up_to-both (λ w l. w ≡ flatten l) g (push f) lo hi (λ i w l h k e. one i w ∙ ap (λ r. r ++ f i) e ∙ sym (flatten-push l (f i))) [] [] refl

module _ (f : ℕ → List Float) (n lo hi : ℕ) (h : lo ≤ hi) (long : (i : ℕ) → i < hi → length (f i) ≡ n) where
  one-more : (i : ℕ) (l : List (List Float)) → i < hi → Wide n l × (lo + length l ≡ i) → Wide n (push f i l) × (lo + length (push f i l) ≡ i + 1)
  unfolding push
  one-more i l k e = (wide-append n l (f i ∷ []) e.0 (long i k, tt {0}), omega (arith, e.1, length-append l (f i ∷ [])))

  collected : Wide n (collect lo hi f) × (lo + length (collect lo hi f) ≡ hi)
  unfolding collect
  collected = up_to-keeps (λ i l. Wide n l × (lo + length l ≡ i)) (push f) hi one-more lo [] h (tt {0}, omega arith)

-- ---- the scaled rows

pub cols-laid : (rows n : ℕ) (m : List Float) → unit_rows rows n m ≡ flatten (cols_of rows n m)
unfolding unit_rows cols_of add_unit
cols-laid rows n m = collect-laid (unit_at n m) (add_unit n m) (λ i w. refl) 0 rows

unit-long : (row : List Float) → length (unit_of row) ≡ length row
unfolding unit_of scaled_by
unit-long row =
    let len : Float = sqrt_of (norm2_of row) in
    either (λ l. length l ≡ length row) (lt zero⁺ len) (map (λ v. v ⊘ len) row) row (length-map row (λ v. v ⊘ len)) refl

row-long : (rows n i : ℕ) (m : List Float) → rows * n ≤ length m → i < rows → length (unit_at n m i) ≡ n
unfolding unit_at
row-long rows n i m fit h =
    let r : n ≤ length (drop (i * n) m) = omega (arith, length-drop (i * n) m, cell_row rows n i (length m) h fit) in
    unit-long (row_at n i m) ∙ length-take-le n (drop (i * n) m) r

cols-are : (rows n : ℕ) (m : List Float) → rows * n ≤ length m → Wide n (cols_of rows n m) × (length (cols_of rows n m) ≡ rows)
unfolding cols_of
cols-are rows n m fit =
    let c = collected (unit_at n m) n 0 rows (omega arith) (λ i h. row-long rows n i m fit h) in
    (c.0, omega (arith, c.1))

-- ---- between two turns

-- the first norm as the code keeps it, +0.0 before there is one
abbrev First : ℕ → Float → Option Float → Type 0
First zero f o = (f ≡ zero⁺) × (o ≡ none)
First (suc k) f o = o ≡ some f

unwrapped : (k : ℕ) (f : Float) (o : Option Float) → First k f o → get_or o zero⁺ ≡ f
unwrapped zero f o e = rw e.1 (sym e.0)
unwrapped (suc k) f o e = rw e

inserted : (k : ℕ) (f norm : Float) (o : Option Float) → First k f o → some (get_or o norm) ≡ some (cond (eqb k 0) norm f)
inserted zero f norm o e = rw e.1
inserted (suc k) f norm o e = let n : (suc k ≡ 0) → ⊥ = λ z. omega arith in rw (e, ne_eqb (suc k) 0 n)

record Held (rows n k rank : ℕ) (first : Float) (w : List Float) (rs : List (List Float)) (o : Option Float) (cols : List (List Float)) : Type 0 where
  pub turns : rank ≡ k
  pub few : k ≤ n
  pub count : length rs ≡ k
  pub rows_all : length cols ≡ rows
  pub wide : Wide n rs × Wide n cols
  pub list : w ≡ flatten rs ++ flatten (drop k cols)
  pub started : First k first o

abbrev Alike : ℕ → ℕ → ℕ → LaidQr → Qr → Type 0
Alike rows n k (laid rank first w) (qr rs o cols) = Held rows n k rank first w rs o cols

goes-is : (a b : Bool) (x : Qr) → goes (cond a stop (cond b stop (go x))) ≡ not a && not b
goes-is true b x = refl
goes-is false true x = refl
goes-is false false x = refl

gone : (a b : Bool) (s x : Qr) → goes (cond a stop (cond b stop (go x))) ≡ true → or_as_it_is s (cond a stop (cond b stop (go x))) ≡ x
gone true b s x e = absurd (false≢true e)
gone false true s x e = absurd (false≢true e)
gone false false s x e = refl

module _ (rows n k rank : ℕ) (first : Float) (w : List Float) (rs : List (List Float)) (o : Option Float) (cols : List (List Float)) (h : k < min n rows)
    (a : Held rows n k rank first w rs o cols) where
  below : k < n
  below = omega arith

  within : k < length cols
  within = rw a.rows_all (omega arith)

  wide : Wide n cols
  wide = a.wide.1

  front : length (flatten rs) ≡ k * n
  front = length-flatten n rs a.wide.0 ∙ ap (λ i. i * n) a.count

  kept : take (k * n) w ≡ flatten rs
  kept = ap (take (k * n)) a.list ∙ take_at (flatten rs) (flatten (drop k cols)) (k * n) front

  part : drop (k * n) w ≡ flatten (drop k cols)
  part = ap (drop (k * n)) a.list ∙ drop_at (flatten rs) (flatten (drop k cols)) (k * n) front

  abbrev norm : Float
  norm = turn.norm n k cols wide below within

  abbrev v : List Float
  v = turn.v n k cols wide below within

  abbrev left : List (List Float)
  left = turn.left n k cols wide below within

  abbrev next : Qr
  next = qr (rs ++ v ∷ []) (some (get_or o norm)) left

  turn_is : turn_of k (qr rs o cols) ≡ cond (ended first norm) stop (cond (eq (norm2_of v) zero⁺) stop (go next))
  unfolding turn_of
  turn_is = rw (unwrapped k first o a.started)

  on-is : laid_on rows n k (laid rank first w) ≡ goes (turn_of k (qr rs o cols))
  unfolding laid_on turns-on
  on-is =
      rw (part, ← a.rows_all, turn.norm-found n k cols wide below within, turn.square-is n k cols wide below within, turn_is)
      (sym (goes-is (ended first norm) (eq (norm2_of v) zero⁺) next))

  next-is : goes (turn_of k (qr rs o cols)) ≡ true → or_as_it_is (qr rs o cols) (turn_of k (qr rs o cols)) ≡ next
  next-is e = rw turn_is (gone (ended first norm) (eq (norm2_of v) zero⁺) (qr rs o cols) next (rw turn_is at e))

  list-is : take (k * n) w ++ turned n (rows - k) k (drop (k * n) w) ≡ flatten (rs ++ v ∷ []) ++ flatten (drop (k + 1) left)
  list-is =
      rw (kept, part, ← a.rows_all, turn.turned-is n k cols wide below within, flatten-push, turn.left_is n k cols wide below within)
      (sym (append_assoc (flatten rs) v _))

  first-is : some (get_or o norm) ≡ some (first_norm_of n (rows - k) k first (drop (k * n) w))
  unfolding first_norm_of
  first-is = rw (part, ← a.rows_all, turn.norm-found n k cols wide below within) (inserted k first norm o a.started)

  stepped : Held rows n (k + 1) (k + 1) (first_norm_of n (rows - k) k first (drop (k * n) w)) (take (k * n) w ++ turned n (rows - k) k (drop (k * n) w)) (rs ++ v ∷ []) (some (get_or o norm)) left
  stepped = record {
    turns = refl;
    few = omega arith;
    count = omega (arith, a.count, length-append rs (v ∷ []));
    rows_all = turn.left-long n k cols wide below within ∙ a.rows_all;
    wide = (wide-append n rs (v ∷ []) a.wide.0 (turn.v-long n k cols wide below within, tt {0}), turn.left-wide n k cols wide below within);
    list = list-is;
    started = rw add-one first-is;
  }

  on : goes (turn_of k (qr rs o cols)) ≡ true → Alike rows n (k + 1) (laid_turn rows n k (laid rank first w)) (or_as_it_is (qr rs o cols) (turn_of k (qr rs o cols)))
  unfolding laid_turn
  on e = rw (next-is e) stepped

module _ (rows n : ℕ) where
  same : (k : ℕ) (s : LaidQr) (d : Qr) → k < min n rows → Alike rows n k s d → laid_on rows n k s ≡ goes (turn_of k d)
  same k (laid rank first w) (qr rs o cols) h a = on-is rows n k rank first w rs o cols h a

  step : (k : ℕ) (s : LaidQr) (d : Qr) → k < min n rows → Alike rows n k s d → goes (turn_of k d) ≡ true → Alike rows n (k + 1) (laid_turn rows n k s) (or_as_it_is d (turn_of k d))
  step k (laid rank first w) (qr rs o cols) h a = on rows n k rank first w rs o cols h a

  both : (cols : List (List Float)) → length cols ≡ rows → Wide n cols → (k : ℕ) × Alike rows n k (laid_out rows n (flatten cols)) (decomposed n cols)
  unfolding laid_out decomposed flatten
  both cols e w =
      rw e
      (while_to-both (Alike rows n) (laid_on rows n) (λ k s. goes (turn_of k s)) (laid_turn rows n) (λ k s. or_as_it_is s (turn_of k s)) (min n rows) same step
      (laid 0 zero⁺ (flatten cols)) (qr [] none cols)
      (record { turns = refl; few = omega arith; count = refl; rows_all = e; wide = (tt {0}, w); list = refl; started = (refl, refl) }))

-- ---- the rank and the reflectors

pub record Found (n : ℕ) (s : LaidQr) (d : Qr) : Type 0 where
  pub few : rank_of d ≤ n
  pub wide : Wide n (reflectors_of d)
  pub rank : laid_rank s ≡ rank_of d
  pub reflectors : laid_reflectors n s ≡ flatten (reflectors_of d)

told : (rows n k : ℕ) (s : LaidQr) (d : Qr) → Alike rows n k s d → Found n s d
told rows n k (laid rank first w) (qr rs o cols) a = record {
  few = rw a.count a.few;
  wide = a.wide.0;
  rank = a.turns ∙ sym a.count;
  reflectors = rw a.list (take_at (flatten rs) (flatten (drop k cols)) (rank * n) (length-flatten n rs a.wide.0 ∙ ap (λ i. i * n) (a.count ∙ sym a.turns)));
}

pub found : (rows n : ℕ) (m : List Float) → rows * n ≤ length m → Found n (laid_out rows n (unit_rows rows n m)) (decomposed n (cols_of rows n m))
found rows n m fit =
    let c = cols-are rows n m fit in
    let b = both rows n (cols_of rows n m) c.1 c.0 in
    rw cols-laid (told rows n b.0 _ _ b.1)

-- ---- the basis

stays : (n : ℕ) (e : List Float) → length e ≡ n → (rs : List (List Float)) → Wide n rs → length (foldr reflect_by e rs) ≡ n
unfolding reflect_by
stays n e q [] w = q
stays n e q (v ∷ rs) w = let p = stays n e q rs w.1 in reflect-length v (norm2_of v) _ (w.0 ∙ sym p) ∙ p

module _ (n : ℕ) (rs : List (List Float)) (wide : Wide n rs) (few : length rs ≤ n) where
  by_row : (r : ℕ) (e : List Float) → reflect_by_row n (flatten rs) r e ≡ reflect_by (item rs r) e
  unfolding reflect_by_row reflect_by
  by_row r e = rw (row_is n r rs wide)

  vector-is : (j : ℕ) → laid_vector n (length rs) (flatten rs) j ≡ basis_vector n rs j
  unfolding laid_vector basis_vector
  vector-is j =
      let e : List Float = set (replicate n zero⁺) j one in
      down_to-same (reflect_by_row n (flatten rs)) (λ r. reflect_by (item rs r)) (length rs) (λ r e h. by_row r e) e ∙ down_to-foldr reflect_by [] rs e

  pub basis-laid : laid_basis n (length rs) (flatten rs) ≡ flatten (basis_of n rs)
  unfolding laid_basis basis_of add_vector
  basis-laid = collect-laid (basis_vector n rs) (add_vector n (length rs) (flatten rs)) (λ j l. ap (λ r. l ++ r) (vector-is j)) (length rs) n

  vector-long : (j : ℕ) → length (basis_vector n rs j) ≡ n
  unfolding basis_vector
  vector-long j = stays n (set (replicate n zero⁺) j one) (length-set (replicate n zero⁺) j one ∙ length-replicate n zero⁺) rs wide

  basis-are : Wide n (basis_of n rs) × (length rs + length (basis_of n rs) ≡ n)
  unfolding basis_of
  basis-are = collected (basis_vector n rs) n (length rs) n few (λ j h. vector-long j)

  pub basis-read : (b : List Float) → collect 0 (n - length rs) (λ i. row_at n i (flatten (basis_of n rs) ++ b)) ≡ basis_of n rs
  basis-read b =
      let e : n - length rs ≡ length (basis_of n rs) = omega (arith, basis-are.1) in
      rw e (rows_are n (basis_of n rs) b basis-are.0)
