-- The loops of specs/Turns.antt, turn by turn. Each has a law for a turn (-next), for an early way out (-stop) and for the end (-done).
-- R is what the whole loop gives, so an invariant says "what is left gives R", which holds at the start by `refl`. `up_to-part` says a loop
-- on a part as a loop on the whole, `up_to-split` a loop as two, one after the other, `try_to-none`, `try_to-all` and `try_to-more` the turns
-- from 0 on, and `fold-append` that two lists are gone over one after the other. Assumes nothing.
use Prim.Native.Nat.{ℕ, zero, suc, ◌+◌, ◌-◌, ◌≤◌, ◌<◌}
use mathlib.Core.Bool.{Bool, true, false}
use mathlib.Core.List.{List, [], ◌∷◌, ◌++◌}
use mathlib.Core.Path.{◌≡◌, refl, sym, ◌∙◌}
use native.Mathlib.Nat.{add_assoc, add-zero, zero-add, suc-add, sub-zero}
use native.Mathlib.Numerals.{add-one}
use native.Mathlib.Omega.{arith}
use lib.ListN.{length, get_or, drop, drop_of_length-le}
use lib.Seq.{drop-cons}
use Rattle.loops.specs.Turns.{Try, after, turns, up_to, down_to, tries, try_to, whiles, while_to, fold, every, go, stop}

-- how many turns are left: one more than after this one
left-next : (hi i : ℕ) → i < hi → hi - i ≡ suc (hi - (i + 1))
left-next hi i h = omega arith

left-done : (hi i : ℕ) → hi ≤ i → hi - i ≡ 0
left-done hi i h = omega arith

module _ {S : Type 0} (f : ℕ → S → S) where
  turns_next : (k n i : ℕ) (s : S) → n ≡ suc k → turns n i f s ≡ turns k (i + 1) f (f i s)
  unfolding turns
  turns_next k n i s e = rw e

  turns-done : (n i : ℕ) (s : S) → n ≡ 0 → turns n i f s ≡ s
  unfolding turns
  turns-done n i s e = rw e

  pub up_to-next : (hi i : ℕ) (s s' R : S) → i < hi → s' ≡ f i s → up_to hi i f s ≡ R → up_to hi (i + 1) f s' ≡ R
  unfolding up_to
  up_to-next hi i s s' R h e r = rw e (sym (turns_next (hi - (i + 1)) (hi - i) i s (left-next hi i h)) ∙ r)

  pub up_to-done : (hi i : ℕ) (s R : S) → hi ≤ i → up_to hi i f s ≡ R → s ≡ R
  unfolding up_to
  up_to-done hi i s R h r = sym (turns-done (hi - i) i s (left-done hi i h)) ∙ r

  down-next : (k i : ℕ) (s : S) → i ≡ suc k → down_to i f s ≡ down_to k f (f k s)
  unfolding down_to
  down-next k i s e = rw e

  pub down_to-next : (i : ℕ) (s s' R : S) → 0 < i → s' ≡ f (i - 1) s → down_to i f s ≡ R → down_to (i - 1) f s' ≡ R
  down_to-next i s s' R h e r = rw e (sym (down-next (i - 1) i s (omega arith)) ∙ r)

  pub down_to-done : (i : ℕ) (s R : S) → i ≤ 0 → down_to i f s ≡ R → s ≡ R
  unfolding down_to
  down_to-done i s R h r = let e : i ≡ 0 = omega arith in rw e at r

-- the turns up to mid, and then those from there on
module _ {S : Type 0} (f : ℕ → S → S) where
  turns-split : (j k i : ℕ) (s : S) → turns (j + k) i f s ≡ turns k (i + j) f (turns j i f s)
  unfolding turns
  turns-split zero k i s = rw (zero-add, add-zero)
  turns-split (suc j) k i s = let e : (i + 1) + j ≡ i + suc j = omega arith in rw (suc-add, ← e) (turns-split j k (i + 1) (f i s))

  pub up_to-split : (hi mid lo : ℕ) (s : S) → lo ≤ mid → mid ≤ hi → up_to hi lo f s ≡ up_to hi mid f (up_to mid lo f s)
  unfolding up_to
  up_to-split hi mid lo s h k =
      let e : hi - lo ≡ (mid - lo) + (hi - mid) = omega arith in
      let m : lo + (mid - lo) ≡ mid = omega arith in
      rw e (rw m at (turns-split (mid - lo) (hi - mid) lo s))

-- a loop on a part of the state, t, is the loop on the whole, φ t, if each turn is: the whole's index is the part's past j
module _ {S T : Type 0} (φ : T → S) (j : ℕ) (f : ℕ → S → S) (g : ℕ → T → T) (turn : (i : ℕ) (t : T) → f (j + i) (φ t) ≡ φ (g i t)) where
  turns-part : (k i : ℕ) (t : T) → turns k (j + i) f (φ t) ≡ φ (turns k i g t)
  unfolding turns
  turns-part zero i t = refl
  turns-part (suc k) i t = rw (turn i t, add_assoc j i 1) (turns-part k (i + 1) (g i t))

  pub up_to-part : (hi i : ℕ) (t : T) → up_to (j + hi) (j + i) f (φ t) ≡ φ (up_to hi i g t)
  unfolding up_to
  up_to-part hi i t = let e : (j + hi) - (j + i) ≡ hi - i = omega arith in rw e (turns-part (hi - i) i t)

-- the turns from 0 on: none, all of them, and one more
module _ {S : Type 0} (f : ℕ → S → Try S) where
  pub try_to-none : (s : S) → try_to 0 0 f s ≡ go s
  unfolding try_to tries
  try_to-none s = refl

  pub try_to-all : (k : ℕ) (s : S) → try_to k 0 f s ≡ tries k 0 f s
  unfolding try_to
  try_to-all k s = rw sub-zero

  tries-more : (k i : ℕ) (s u v : S) → tries k i f s ≡ go u → f (i + k) u ≡ go v → tries (suc k) i f s ≡ go v
  unfolding tries
  tries-more zero i s u v e h = let q : s ≡ u = cc in rw (q, rw add-zero at h)
  tries-more (suc k) i s u v e h = by (f i s) e (λ w q. tries-more k (i + 1) w u v q (let j : (i + 1) + k ≡ i + suc k = omega arith in rw j h))
    where
      by : (t : Try S) → after t (tries k (i + 1) f) ≡ go u → ((w : S) → tries k (i + 1) f w ≡ go u → tries (suc k) (i + 1) f w ≡ go v) → after t (tries (suc k) (i + 1) f) ≡ go v
      by (go w) e rest = rest w e
      by stop e rest = cc

  pub try_to-more : (k : ℕ) (s u v : S) → try_to k 0 f s ≡ go u → f k u ≡ go v → try_to (k + 1) 0 f s ≡ go v
  try_to-more k s u v e h =
      let j : k + 1 ≡ suc k = omega arith in
      try_to-all (k + 1) s ∙ rw j (tries-more k 0 s u v (sym (try_to-all k s) ∙ e) (rw zero-add h))

module _ {S : Type 0} (p : ℕ → S → Bool) (f : ℕ → S → S) where
  whiles-next : (k n i : ℕ) (s : S) → n ≡ suc k → p i s ≡ true → whiles n i p f s ≡ whiles k (i + 1) p f (f i s)
  unfolding whiles
  whiles-next k n i s e t = rw (e, t)

  whiles-stop : (k n i : ℕ) (s : S) → n ≡ suc k → p i s ≡ false → whiles n i p f s ≡ s
  unfolding whiles
  whiles-stop k n i s e t = rw (e, t)

  whiles-done : (n i : ℕ) (s : S) → n ≡ 0 → whiles n i p f s ≡ s
  unfolding whiles
  whiles-done n i s e = rw e

  pub while_to-next : (hi i : ℕ) (s s' R : S) → i < hi → p i s ≡ true → s' ≡ f i s → while_to hi i p f s ≡ R → while_to hi (i + 1) p f s' ≡ R
  unfolding while_to
  while_to-next hi i s s' R h t e r = rw e (sym (whiles-next (hi - (i + 1)) (hi - i) i s (left-next hi i h) t) ∙ r)

  pub while_to-stop : (hi i : ℕ) (s R : S) → i < hi → p i s ≡ false → while_to hi i p f s ≡ R → s ≡ R
  unfolding while_to
  while_to-stop hi i s R h t r = sym (whiles-stop (hi - (i + 1)) (hi - i) i s (left-next hi i h) t) ∙ r

  pub while_to-done : (hi i : ℕ) (s R : S) → hi ≤ i → while_to hi i p f s ≡ R → s ≡ R
  unfolding while_to
  while_to-done hi i s R h r = sym (whiles-done (hi - i) i s (left-done hi i h)) ∙ r

-- the rest of a list from a place on: the element there, and the rest after it
rest-next : {A : Type 0} (d : A) (l : List A) (i : ℕ) → i < length l → drop i l ≡ get_or l i d ∷ drop (i + 1) l
rest-next d l i h = rw (add-one, drop-cons l i d h)

module _ {A S : Type 0} where
  pub fold_next : (d : A) (f : S → A → S) (l : List A) (i : ℕ) (s s' R : S) → i < length l → s' ≡ f s (get_or l i d) → fold f s (drop i l) ≡ R → fold f s' (drop (i + 1) l) ≡ R
  fold_next d f l i s s' R h e r = rw e (rw (rest-next d l i h) at r)

  pub fold_done : (f : S → A → S) (l : List A) (i : ℕ) (s R : S) → length l ≤ i → fold f s (drop i l) ≡ R → s ≡ R
  fold_done f l i s R h r = rw (drop_of_length-le l h) at r

  pub fold-append : (f : S → A → S) (s : S) (l m : List A) → fold f s (l ++ m) ≡ fold f (fold f s l) m
  fold-append f s [] m = refl
  fold-append f s (x ∷ l) m = fold-append f (f s x) l m

module _ {A : Type 0} where
  -- the test is a function that answers b
  pub every-next : (d : A) (p : A → Bool) (l : List A) (i : ℕ) (b R : Bool) → i < length l → b ≡ p (get_or l i d) → b ≡ true → every p (drop i l) ≡ R → every p (drop (i + 1) l) ≡ R
  every-next d p l i b R h e t r = rw (sym e ∙ t) at (rw (rest-next d l i h) at r)

  pub every-stop : (d : A) (p : A → Bool) (l : List A) (i : ℕ) (b R : Bool) → i < length l → b ≡ p (get_or l i d) → b ≡ false → every p (drop i l) ≡ R → false ≡ R
  every-stop d p l i b R h e t r = rw (sym e ∙ t) at (rw (rest-next d l i h) at r)

  pub every-done : (p : A → Bool) (l : List A) (i : ℕ) (R : Bool) → length l ≤ i → every p (drop i l) ≡ R → true ≡ R
  every-done p l i R h r = rw (drop_of_length-le l h) at r
