-- A list while the images of another's elements go to its head, and once as many of them are there as there is room for.
-- Assumes nothing.
use Prim.Native.Nat.{ℕ, zero, suc, ◌≤◌, ◌<◌, min}
use mathlib.Core.List.{List, [], ◌∷◌, ◌++◌, map}
use mathlib.Core.Path.{◌≡◌, refl, ap, ◌∙◌}
use native.Mathlib.Decide.{dec_lt}
use native.Mathlib.Omega.{arith}
use lib.Ieee.{Float}
use lib.ListN.{length, take, drop, length-map, drop_of_length-le}
use lib.Seq.{take_all}
use Rattle.floats.specs.Lists.{copied_of}

module _ {A B : Type 0} (g : A → B) where
  taken : (n : ℕ) (l : List A) → map g (take n l) ≡ take n (map g l)
  taken zero l = refl
  taken (suc n) [] = refl
  taken (suc n) (x ∷ l) = ap {B = List B} (λ r. g x ∷ r) (taken n l)

module _ {A : Type 0} (g : A → Float) (l : List A) (t : List Float) where
  pub head_done : (s : List Float) (i : ℕ) → i ≡ min (length l) (length t) → s ≡ map g (take i l) ++ drop i t → s ≡ copied_of (map g l) t
  head_done s i e q = q ∙ rw (taken g i l) (go (dec_lt (length t) (length l)))
    where
      go : Dec (length t < length l) → take i (map g l) ++ drop i t ≡ take (length t) (map g l) ++ drop (length (map g l)) t
      go (yes h) =
          let j : i ≡ length t = omega arith in
          let k : length t ≤ length (map g l) = rw (length-map l g) (omega arith) in
          let z : length t ≤ length t = omega arith in
          rw (j, drop_of_length-le t z, drop_of_length-le t k)
      go (no n) =
          let j : i ≡ length (map g l) = rw (length-map l g) (omega arith) in
          let k : length (map g l) ≤ length t = rw (length-map l g) (omega arith) in
          let z : length (map g l) ≤ length (map g l) = omega arith in
          rw (j, take_all (length (map g l)) (map g l) z, take_all (length t) (map g l) k)
