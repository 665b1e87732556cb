-- The loop that fills a room with items, and what a build holds then. Assumes nothing.
use Prim.Native.Nat.{ℕ, suc, ◌+◌, ◌-◌, ◌≤◌, ◌<◌}
use mathlib.Core.List.{List, [], ◌∷◌, ◌++◌, append-nil, append_assoc}
use mathlib.Core.Path.{◌≡◌, refl, sym, ap, ◌∙◌}
use native.Mathlib.Omega.{arith}
use lib.ListN.{length, take, drop, set, replicate}
use Rattle.std.proofs.Common.{Ok, Err}
use Rattle.std.specs.Result.{result_map_both}
use Rattle.std.proofs.lemmas.List.{take_more_set, drop-replicate, take-append-drop, length-take-le}
use Rattle.sketch.specs.Blank.{filled}
use Rattle.spelling.specs.Places.{Read, ◌>>=◌}
use Rattle.text.specs.Items.{items_at}

module _ {A : Type 0} (line : List ℕ → ℕ → Read A) (s : List ℕ) where
  abbrev after_front : List A → List A × ℕ → List A × ℕ
  after_front l r = (l ++ r.0, r.1)

  abbrev in_front : A → List A × ℕ → Read (List A)
  in_front a q = Ok (a ∷ q.0, q.1)

  -- of n items those up to i, and those that are left
  unfoldable pub left : ℕ → List A → ℕ → ℕ → Read (List A)
  left n l i at = result_map_both (after_front (take i l)) (λ e. e) (items_at line (n - i) s at)

  one-more : (l : List A) (i : ℕ) (a : A) (o : Read (List A)) → i < length l
      → result_map_both (after_front (take i l)) (λ e. e) (o >>= in_front a) ≡ result_map_both (after_front (take (i + 1) (set l i a))) (λ e. e) o
  one-more l i a (Err e) h = refl
  one-more l i a (Ok q) h = ap (λ k. Ok (k, q.1)) (sym (append_assoc (take i l) (a ∷ []) q.0) ∙ ap (λ k. k ++ q.0) (sym (take_more_set l i a h)))

  pub items-next : (n : ℕ) (l : List A) (i at m : ℕ) (a : A) (R : Read (List A)) → i < length l → i < n → line s at ≡ Ok (a, m) → left n l i at ≡ R
      → left n (set l i a) (i + 1) m ≡ R
  unfolding left items_at
  items-next n l i at m a R h k e r =
      let w : n - i ≡ suc (n - (i + 1)) = omega arith in
      let q = rw (w, e) at r in
      sym (one-more l i a (items_at line (n - (i + 1)) s m) h) ∙ q

  pub items-stop : (n : ℕ) (l : List A) (i at m : ℕ) (R : Read (List A)) → i < n → line s at ≡ Err m → left n l i at ≡ R → Err m ≡ R
  unfolding left items_at
  items-stop n l i at m R h e r =
      let w : n - i ≡ suc (n - (i + 1)) = omega arith in
      rw (w, e) at r

  pub items-done : (n : ℕ) (l : List A) (i at : ℕ) (R : Read (List A)) → n ≤ i → i ≤ n → left n l i at ≡ R → ◌≡◌ {A = Read (List A)} (Ok (take n l, at)) R
  unfolding left items_at
  items-done n l i at R h k r =
      let w : n - i ≡ 0 = omega arith in
      let j : n ≡ i = omega arith in
      let q = rw w at r in
      ap (λ x. Ok (x, at)) (ap (λ x. take x l) j ∙ sym (append-nil (take i l))) ∙ q

  all-left : (o : Read (List A)) → result_map_both (after_front []) (λ e. e) o ≡ o
  all-left (Err e) = refl
  all-left (Ok q) = refl

  pub items-start : (n : ℕ) (l : List A) (at : ℕ) → left n l 0 at ≡ items_at line n s at
  unfolding left
  items-start n l at = let w : n - 0 ≡ n = omega arith in rw w (all-left (items_at line n s at))

-- n items in front of the blanks that were there
pub filled-is : {A : Type 0} (m n : ℕ) (blank : A) (l : List A) → n ≤ length l → drop n l ≡ drop n (replicate m blank) → l ≡ filled m blank (take n l)
filled-is m n blank l h e =
    sym (take-append-drop n l) ∙ ap (λ r. take n l ++ r) (e ∙ drop-replicate n m blank ∙ ap (λ i. replicate (m - i) blank) (sym (length-take-le n l h)))
