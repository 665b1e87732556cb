-- An array that `map` makes by calls that answer f of what they are given is the list's `map f`. Assumes nothing.
use Prim.Native.Nat.{ℕ, ◌<◌}
use mathlib.Core.List.{List, map}
use mathlib.Core.Path.{◌≡◌, sym, ◌∙◌}
use native.Mathlib.Omega.{arith}
use denote.Param.Members.{Mut, Called}
use lib.ListN.{length, length-map}
use Rattle.std.proofs.lemmas.List.{ext_get_or, get_or-map}
use Rattle.std.specs.Array.{IsMapOf}

module _ {F A B : Type 0} (g : Mut F (A × Unit {0}) B) (f : A → B) (same : (p q : F) (x : A) (y : B) → Called g p (x, tt) y q → y ≡ f x) where
  pub mapped : (s : F) (xs : List A) (ys : List B) (n : ℕ) (d : A) (e : B) → length xs ≡ n → IsMapOf g s xs ys n → ys ≡ map f xs
  mapped s xs ys n d e l h =
      ext_get_or e ys (map f xs) (h.long ∙ sym (length-map xs f ∙ l))
      (λ i k.
      let m : i < n = omega (arith, h.long) in
      let o : i < length xs = omega arith in
      let w = h.at i d e m in
      same w.0 w.1 _ _ w.2 ∙ sym (get_or-map f xs i d e o))
