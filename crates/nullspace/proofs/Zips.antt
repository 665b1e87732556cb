-- Lists that are written by index, place after place, and what they are as a whole. Assumes nothing.
--     mixed-get, mixed-set, mixed-long    the first i numbers are l's, the others t's: what is at i, one more of l's, and the length
--     zip-long               two lists of n numbers zipped are n
--     zip-dot, zip-less      `reflect`'s two loops by index are its product and its difference
use Prim.Native.Nat.{ℕ, zero, suc, ◌+◌, ◌≤◌, ◌<◌}
use mathlib.Core.List.{List, [], ◌∷◌, ◌++◌, zip_with, append-nil}
use mathlib.Core.Path.{◌≡◌, refl, sym, ap, ◌∙◌}
use native.Mathlib.Nat.{zero-add, not-suc-le-zero, le_of_suc-le-suc}
use native.Mathlib.Numerals.{add-one}
use native.Mathlib.Omega.{arith}
use lib.ListN.{length, get_or, take, drop, set, length-append, length-drop, drop_of_length-le}
use lib.Seq.{length-take-le, take_all, take-suc, drop-cons, get_or_at, paste-suc}
use lib.Ieee.{Float, nan}
use Rattle.floats.specs.Ops.{◌⊕◌, ◌⊖◌, ◌⊗◌, zero⁻}
use Rattle.loops.proofs.Keeps.{up_to-keeps}
use Rattle.loops.specs.Turns.{up_to, fold}
use Rattle.loops.proofs.Turning.{fold-append}
use Rattle.solver.specs.Steps.{less_by}
use Rattle.nullspace.specs.Steps.{dot_of}
use Rattle.nullspace.specs.Layout.{add_product}

abbrev pub mixed : ℕ → List Float → List Float → List Float
mixed i l t = take i l ++ drop i t

module _ (i : ℕ) (l t : List Float) (same : length l ≡ length t) (h : i < length t) where
  pub mixed-get : get_or (mixed i l t) i nan ≡ get_or t i nan
  mixed-get = rw (drop-cons t i nan h) (get_or_at (take i l) (get_or t i nan) (drop (suc i) t) nan i (length-take-le i l (omega arith)))

  pub mixed-set : set (mixed i l t) i (get_or l i nan) ≡ mixed (i + 1) l t
  mixed-set = let k : i < length l = omega arith in rw add-one (simp zero-add at (paste-suc t 0 l i nan (rw zero-add h) k))

  pub mixed-long : length (mixed i l t) ≡ length t
  mixed-long = omega (arith, length-append (take i l) (drop i t), length-take-le i l (omega arith), length-drop i t)

module _ (g : Float → Float → Float) where
  pub zip-long : (a b : List Float) → length a ≡ length b → length (zip_with g a b) ≡ length a
  unfolding zip_with
  zip-long [] b e = refl
  zip-long (x ∷ a) [] e = let none : suc (length a) ≤ 0 = omega (arith, e) in absurd (not-suc-le-zero none)
  zip-long (x ∷ a) (y ∷ b) e = ap suc (zip-long a b (omega (arith, e)))

  zip_get : (i : ℕ) (a b : List Float) → i < length a → i < length b → get_or (zip_with g a b) i nan ≡ g (get_or a i nan) (get_or b i nan)
  unfolding zip_with
  zip_get i [] b h k = absurd (not-suc-le-zero h)
  zip_get i (x ∷ a) [] h k = absurd (not-suc-le-zero k)
  zip_get zero (x ∷ a) (y ∷ b) h k = refl
  zip_get (suc i) (x ∷ a) (y ∷ b) h k = zip_get i a b (le_of_suc-le-suc h) (le_of_suc-le-suc k)

module _ (n : ℕ) (v c : List Float) (long : length v ≡ n) (same : length c ≡ n) where
  abbrev products : List Float
  products = zip_with ◌⊗◌ v c

  products-long : length products ≡ n
  products-long = zip-long ◌⊗◌ v c (omega arith) ∙ long

  one-more : (i : ℕ) (s : Float) → i < n → s ≡ fold ◌⊕◌ zero⁻ (take i products) → add_product v c i s ≡ fold ◌⊕◌ zero⁻ (take (i + 1) products)
  unfolding add_product
  one-more i s h e =
      rw (e, ← zip_get ◌⊗◌ i v c (omega arith) (omega arith), add-one, take-suc products i nan (rw products-long h))
      (sym (fold-append ◌⊕◌ zero⁻ (take i products) (get_or products i nan ∷ [])))

  pub zip-dot : up_to n 0 (add_product v c) zero⁻ ≡ dot_of v c
  unfolding dot_of
  zip-dot =
      let all : length products ≤ n = omega (arith, products-long) in
      up_to-keeps (λ i s. s ≡ fold ◌⊕◌ zero⁻ (take i products)) (add_product v c) n one-more 0 zero⁻ (omega arith) refl ∙ ap (fold ◌⊕◌ zero⁻) (take_all n products all)

  module _ (f : Float) where
    abbrev less : List Float
    less = zip_with (λ ci vi. ci ⊖ f ⊗ vi) c v

    less-long : length less ≡ length c
    less-long = zip-long (λ ci vi. ci ⊖ f ⊗ vi) c v (omega arith)

    one_less : (i : ℕ) (s : List Float) → i < n → s ≡ mixed i less c → less_by v f i s ≡ mixed (i + 1) less c
    unfolding less_by
    one_less i s h e =
        rw (e, mixed-get i less c less-long (omega arith), ← zip_get (λ ci vi. ci ⊖ f ⊗ vi) i c v (omega arith) (omega arith))
        (mixed-set i less c less-long (omega arith))

    pub zip-less : up_to n 0 (less_by v f) c ≡ less
    zip-less =
        let all : length less ≤ n = omega (arith, less-long) in
        let none : length c ≤ n = omega arith in
        up_to-keeps (λ i s. s ≡ mixed i less c) (less_by v f) n one_less 0 c (omega arith) refl ∙ rw (take_all n less all, drop_of_length-le c none, append-nil)
