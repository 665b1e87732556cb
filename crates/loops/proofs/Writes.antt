-- What a slice holds while a loop writes it from the front, one place a turn.
--     fill     every place gets the value v
--     into     the places of t get g of what l holds there, in turn
--     own      the places of l get g of what they hold, in turn
-- Each has a law for a turn (-next) and for the end (-done, -whole). Assumes nothing.
use Prim.Native.Nat.{ℕ, zero, suc, ◌+◌, ◌≤◌, ◌<◌}
use mathlib.Core.List.{List, [], ◌∷◌, ◌++◌, map, append-nil}
use mathlib.Core.Path.{◌≡◌, refl, ap, ◌∙◌}
use native.Mathlib.Nat.{not-suc-le-zero, le_of_suc-le-suc, le_antisymm}
use native.Mathlib.Numerals.{add-one}
use native.Mathlib.Omega.{arith}
use lib.ListN.{length, get_or, take, drop, set, replicate, drop_of_length-le}
use lib.Seq.{take_all}

module _ {A : Type 0} where
  filled : (n : ℕ) (v : A) (l : List A) → n < length l → set (replicate n v ++ drop n l) n v ≡ replicate (suc n) v ++ drop (suc n) l
  filled n v [] h = absurd (not-suc-le-zero h)
  filled zero v (x ∷ l) h = refl
  filled (suc n) v (x ∷ l) h = ap {B = List A} (λ r. v ∷ r) (filled n v l (le_of_suc-le-suc h))

  pub fill-next : (v : A) (l s : List A) (i : ℕ) → i < length l → s ≡ replicate i v ++ drop i l → set s i v ≡ replicate (i + 1) v ++ drop (i + 1) l
  fill-next v l s i h e = rw (e, add-one) (filled i v l h)

  pub fill_done : (v : A) (l s : List A) (i : ℕ) → length l ≤ i → i ≤ length l → s ≡ replicate i v ++ drop i l → s ≡ replicate (length l) v
  fill_done v l s i h k e = e ∙ rw (drop_of_length-le l h, append-nil, le_antisymm k h)

module _ {A B : Type 0} (g : A → B) where
  gone : (d : A) (l : List A) (t : List B) (n : ℕ) → n < length l → n < length t
      → set (map g (take n l) ++ drop n t) n (g (get_or l n d)) ≡ map g (take (suc n) l) ++ drop (suc n) t
  gone d [] t n h k = absurd (not-suc-le-zero h)
  gone d (x ∷ l) [] n h k = absurd (not-suc-le-zero k)
  gone d (x ∷ l) (y ∷ t) zero h k = refl
  gone d (x ∷ l) (y ∷ t) (suc n) h k = ap {B = List B} (λ r. g x ∷ r) (gone d l t n (le_of_suc-le-suc h) (le_of_suc-le-suc k))

  pub into_next : (d : A) (l : List A) (t s : List B) (i : ℕ) (v : B) → i < length l → i < length t → v ≡ g (get_or l i d)
      → s ≡ map g (take i l) ++ drop i t → set s i v ≡ map g (take (i + 1) l) ++ drop (i + 1) t
  into_next d l t s i v h k e q = rw (e, q, add-one) (gone d l t i h k)

  into-done : (l : List A) (t s : List B) (i : ℕ) → length l ≤ i → i ≤ length l → s ≡ map g (take i l) ++ drop i t → s ≡ map g l ++ drop (length l) t
  into-done l t s i h k q = q ∙ rw (take_all i l h, le_antisymm k h)

  -- where t is as long as l
  pub into-whole : (l : List A) (t s : List B) (i : ℕ) → length t ≡ length l → length l ≤ i → i ≤ length l → s ≡ map g (take i l) ++ drop i t → s ≡ map g l
  into-whole l t s i e h k q = let all : length t ≤ length l = omega arith in into-done l t s i h k q ∙ rw (drop_of_length-le t all, append-nil)

module _ {A : Type 0} (g : A → A) where
  untouched : (d : A) (l : List A) (n : ℕ) → n < length l → get_or (map g (take n l) ++ drop n l) n d ≡ get_or l n d
  untouched d [] n h = absurd (not-suc-le-zero h)
  untouched d (x ∷ l) zero h = refl
  untouched d (x ∷ l) (suc n) h = untouched d l n (le_of_suc-le-suc h)

  -- where the places are l's own
  pub own_next : (d : A) (l s : List A) (i : ℕ) → i < length l → s ≡ map g (take i l) ++ drop i l
      → set s i (g (get_or s i d)) ≡ map g (take (i + 1) l) ++ drop (i + 1) l
  own_next d l s i h q = into_next g d l l s i (g (get_or s i d)) h h (ap (λ t. g (get_or t i d)) q ∙ ap g (untouched d l i h)) q
