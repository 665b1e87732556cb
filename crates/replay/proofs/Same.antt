-- Two lists of bytes are the same exactly when they are equal. Assumes nothing.
use mathlib.Core.Bool.{true}
use mathlib.Core.List.{List, [], ◌∷◌}
use mathlib.Core.Path.{◌≡◌, refl}
use Prim.Native.Nat.{ℕ}
use borrow.Author.Tests.{eqb-true, eq-eqb}
use lib.Dec.{eqb}
use lib.Pointwise.{pointwise}
use Rattle.loops.proofs.Picks.{both}
use Rattle.replay.specs.Judged.{same_bytes}

pub same-sound : (a b : List ℕ) → same_bytes a b ≡ true → a ≡ b
unfolding same_bytes
same-sound [] [] h = refl
same-sound [] (y ∷ b) h = cc
same-sound (x ∷ a) [] h = cc
same-sound (x ∷ a) (y ∷ b) h = rw (eqb-true x y (both (eqb x y) (same_bytes a b) h).0, same-sound a b (both (eqb x y) (same_bytes a b) h).1)

pub same-itself : (a : List ℕ) → same_bytes a a ≡ true
unfolding same_bytes
same-itself [] = refl
same-itself (x ∷ a) = rw (eq-eqb x x refl) (same-itself a)

-- what `==` answers at two slices
pub same-compared : (a b : List ℕ) → pointwise eqb a b ≡ same_bytes a b
unfolding same_bytes
same-compared [] [] = refl
same-compared [] (y ∷ b) = refl
same-compared (x ∷ a) [] = refl
same-compared (x ∷ a) (y ∷ b) = rw (same-compared a b)
