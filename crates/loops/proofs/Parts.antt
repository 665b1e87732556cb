-- A part of a slice that is lent and comes back.
--     front        the part `&mut a[..k]` has k places
--     still-fits   when it has come back, it can be lent again
--     refilled     what a is when that part has come back, and then has come back filled with v
--     tail-part    the part `&mut a[st..]` is a from st on
--     past-tail    what a is when that part has come back as y
--     get-past, set_past    a read and a write past the front p of a list
--     any-default           within a list the default is not asked for
--     set-both              two lists of one length that hold the same at a place hold the same there after a write to both
-- Assumes nothing.
use Prim.Native.Nat.{ℕ, zero, suc, ◌+◌, ◌-◌, ◌≤◌, ◌<◌}
use mathlib.Core.List.{List, [], ◌∷◌, ◌++◌, append-nil}
use mathlib.Core.Path.{◌≡◌, refl, sym, ap, ◌∙◌}
use native.Mathlib.Nat.{suc-add, zero-add}
use native.Mathlib.Omega.{arith}
use lib.ListN.{length, get_or, take, drop, set, replicate, length-drop, drop_of_length-le}
use lib.Seq.{length-take-le, length_front, take_all, take_at, drop_at, get_or-append-add, drop-cons}

module _ {A : Type 0} where
  pub front : (k : ℕ) (a : List A) → k ≤ length a → k ≡ length (take k a)
  front k a h = sym (length-take-le k a h)

  pub still-fits : (k : ℕ) (a y : List A) → k ≤ length a → length y ≡ length (take k a) → k ≤ length (y ++ drop k a)
  still-fits k a y h e = rw (length_front a y k e) h

  pub refilled : (v : A) (k : ℕ) (a y z : List A) → k ≤ length a → length y ≡ length (take k a) → z ≡ replicate (length (take k (y ++ drop k a))) v
      → z ++ drop k (y ++ drop k a) ≡ replicate k v ++ drop k a
  refilled v k a y z h e q =
      let n : length y ≡ k = e ∙ length-take-le k a h in
      rw (q, take_at y (drop k a) k n, drop_at y (drop k a) k n, n)

  pub tail-part : (a : List A) (st : ℕ) → take (length a - st) (drop st a) ≡ drop st a
  tail-part a st = take_all (length a - st) (drop st a) (simp length-drop (omega arith))

  pub past-tail : (a y : List A) (st : ℕ) → take st a ++ (y ++ drop (length a - st) (drop st a)) ≡ take st a ++ y
  past-tail a y st =
      let e : length (drop st a) ≤ length a - st = simp length-drop (omega arith) in
      rw (drop_of_length-le (drop st a) e, append-nil)

  pub get-past : (p t : List A) (st i : ℕ) (d : A) → length p ≡ st → get_or (p ++ t) (st + i) d ≡ get_or t i d
  get-past p t st i d e = rw (← e) (get_or-append-add p t i d)

  past : (p t : List A) (i : ℕ) (v : A) → set (p ++ t) (length p + i) v ≡ p ++ set t i v
  past [] t i v = rw zero-add
  past (x ∷ p) t i v = rw suc-add (ap {B = List A} (λ r. x ∷ r) (past p t i v))

  pub set_past : (p t : List A) (st i : ℕ) (v : A) → length p ≡ st → set (p ++ t) (st + i) v ≡ p ++ set t i v
  set_past p t st i v e = rw (← e) (past p t i v)

  pub any-default : (l : List A) (i : ℕ) (d e : A) → i < length l → get_or l i d ≡ get_or l i e
  any-default l i d e h =
      let p : get_or l i d ∷ drop (suc i) l ≡ get_or l i e ∷ drop (suc i) l = sym (drop-cons l i d h) ∙ drop-cons l i e h in
      cc

  pub set-both : (l m : List A) (i j : ℕ) (v d : A) → length l ≡ length m → get_or l j d ≡ get_or m j d → get_or (set l i v) j d ≡ get_or (set m i v) j d
  set-both [] [] i j v d n e = e
  set-both [] (y ∷ m) i j v d n e = absurd (omega (arith, n))
  set-both (x ∷ l) [] i j v d n e = absurd (omega (arith, n))
  set-both (x ∷ l) (y ∷ m) zero zero v d n e = refl
  set-both (x ∷ l) (y ∷ m) zero (suc j) v d n e = e
  set-both (x ∷ l) (y ∷ m) (suc i) zero v d n e = e
  set-both (x ∷ l) (y ∷ m) (suc i) (suc j) v d n e = set-both l m i j v d (omega (arith, n)) e
