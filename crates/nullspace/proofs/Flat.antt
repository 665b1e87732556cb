-- Rows of n numbers, as a list of lists and one after another in one list. Assumes nothing.
--     Wide                   each row has n numbers; what keeps that: wide-append, wide-take, wide-drop, wide-set, wide-map, and wide_at
--     flatten-append, flatten-push, length-flatten    the one list, of two lists of rows, of one row more, and its length
--     row_is, row_in, rest-is    a row there, with more behind it, and what is left of it from k on
--     rows_are               the rows that are read out of the one list
use Prim.Native.Nat.{ℕ, zero, suc, ◌+◌, ◌-◌, ◌*◌, ◌<◌}
use mathlib.Core.List.{List, [], ◌∷◌, ◌++◌, map, flatten, append-nil, append_assoc}
use mathlib.Core.Path.{◌≡◌, refl, sym, ap, ◌∙◌}
use native.Mathlib.Nat.{zero-mul, sub-zero, zero-sub, suc-sub-suc, not-suc-le-zero, le_of_suc-le-suc}
use native.Mathlib.Numerals.{add-one}
use native.Mathlib.Omega.{arith}
use lib.ListN.{length, take, drop, set, length-append}
use lib.Seq.{take-nil, drop-nil, take_at, take-suc, take-length, drop-append-add, drop-drop}
use lib.Ieee.{Float}
use Rattle.loops.proofs.Keeps.{up_to-keeps}
use Rattle.nullspace.specs.Steps.{push, collect, item, row_at}

abbrev pub Wide : ℕ → List (List Float) → Type 0
Wide n [] = Unit {0}
Wide n (c ∷ l) = (length c ≡ n) × Wide n l

module _ (n : ℕ) where
  pub wide-append : (a b : List (List Float)) → Wide n a → Wide n b → Wide n (a ++ b)
  wide-append [] b u v = v
  wide-append (c ∷ a) b u v = (u.0, wide-append a b u.1 v)

  pub wide-take : (k : ℕ) (l : List (List Float)) → Wide n l → Wide n (take k l)
  wide-take zero l w = tt {0}
  wide-take (suc k) [] w = w
  wide-take (suc k) (c ∷ l) w = (w.0, wide-take k l w.1)

  pub wide-drop : (k : ℕ) (l : List (List Float)) → Wide n l → Wide n (drop k l)
  wide-drop zero l w = w
  wide-drop (suc k) [] w = w
  wide-drop (suc k) (c ∷ l) w = wide-drop k l w.1

  pub wide-set : (l : List (List Float)) (i : ℕ) (c : List Float) → length c ≡ n → Wide n l → Wide n (set l i c)
  wide-set [] i c e w = w
  wide-set (x ∷ l) zero c e w = (e, w.1)
  wide-set (x ∷ l) (suc i) c e w = (w.0, wide-set l i c e w.1)

  pub wide-map : (f : List Float → List Float) → ((c : List Float) → length c ≡ n → length (f c) ≡ n) → (l : List (List Float)) → Wide n l → Wide n (map f l)
  wide-map f e [] w = w
  wide-map f e (c ∷ l) w = (e c w.0, wide-map f e l w.1)

  pub wide_at : (l : List (List Float)) (i : ℕ) → i < length l → Wide n l → length (item l i) ≡ n
  wide_at [] i h w = absurd (not-suc-le-zero h)
  wide_at (c ∷ l) zero h w = w.0
  wide_at (c ∷ l) (suc i) h w = wide_at l i (le_of_suc-le-suc h) w.1

pub flatten-append : (a b : List (List Float)) → flatten (a ++ b) ≡ flatten a ++ flatten b
unfolding flatten
flatten-append [] b = refl
flatten-append (x ∷ a) b = ap {B = List Float} (λ r. x ++ r) (flatten-append a b) ∙ sym (append_assoc x (flatten a) (flatten b))

pub flatten-push : (a : List (List Float)) (c : List Float) → flatten (a ++ c ∷ []) ≡ flatten a ++ c
unfolding flatten
flatten-push a c = flatten-append a (c ∷ []) ∙ rw append-nil

pub length-flatten : (n : ℕ) (l : List (List Float)) → Wide n l → length (flatten l) ≡ length l * n
unfolding flatten
length-flatten n [] w = sym (zero-mul n)
length-flatten n (c ∷ l) w = omega (arith, length-append c (flatten l), w.0, length-flatten n l w.1)

-- past a row
past_row : (n j : ℕ) (c b : List Float) → length c ≡ n → drop (suc j * n) (c ++ b) ≡ drop (j * n) b
past_row n j c b e =
    let s : suc j * n ≡ length c + j * n = omega (arith, e) in
    rw s (drop-append-add c b (j * n))

pub row_is : (n j : ℕ) (l : List (List Float)) → Wide n l → row_at n j (flatten l) ≡ item l j
unfolding flatten
row_is n j [] w = rw (drop-nil, take-nil)
row_is n zero (c ∷ l) w = rw zero-mul (take_at c (flatten l) n w.0)
row_is n (suc j) (c ∷ l) w = rw (past_row n j c (flatten l) w.0) (row_is n j l w.1)

pub row_in : (n j : ℕ) (l : List (List Float)) (b : List Float) → j < length l → Wide n l → row_at n j (flatten l ++ b) ≡ item l j
unfolding flatten
row_in n j [] b h w = absurd (not-suc-le-zero h)
row_in n zero (c ∷ l) b h w = rw (zero-mul, append_assoc) (take_at c (flatten l ++ b) n w.0)
row_in n (suc j) (c ∷ l) b h w = rw (append_assoc, past_row n j c (flatten l ++ b) w.0) (row_in n j l b (le_of_suc-le-suc h) w.1)

drop-take : (k n : ℕ) (l : List Float) → drop k (take n l) ≡ take (n - k) (drop k l)
drop-take zero n l = rw sub-zero
drop-take (suc k) zero l = rw zero-sub
drop-take (suc k) (suc n) [] = rw take-nil
drop-take (suc k) (suc n) (x ∷ l) = rw suc-sub-suc (drop-take k n l)

pub rest-is : (n k j : ℕ) (l : List (List Float)) → Wide n l → take (n - k) (drop (j * n + k) (flatten l)) ≡ drop k (item l j)
rest-is n k j l w = rw (← drop-drop) (sym (drop-take k n (drop (j * n) (flatten l))) ∙ ap (drop k) (row_is n j l w))

one-more : (n i : ℕ) (l : List (List Float)) (b : List Float) → i < length l → Wide n l → push (λ i. row_at n i (flatten l ++ b)) i (take i l) ≡ take (i + 1) l
unfolding push
one-more n i l b h w = rw (row_in n i l b h w, add-one) (sym (take-suc l i [] h))

pub rows_are : (n : ℕ) (l : List (List Float)) (b : List Float) → Wide n l → collect 0 (length l) (λ i. row_at n i (flatten l ++ b)) ≡ l
unfolding collect
rows_are n l b w =
    up_to-keeps (λ i s. s ≡ take i l) (push (λ i. row_at n i (flatten l ++ b))) (length l) (λ i s h e. rw e (one-more n i l b h w)) 0 [] (omega arith) refl
    ∙ take-length l
