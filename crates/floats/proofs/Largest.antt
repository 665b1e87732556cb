-- `max_abs_of` is the largest magnitude as specs/Largest.antt has it (`largest`); and where it is at most a bound, each of the numbers is finite
-- and of magnitude at most the bound (`all-within`): no number is left out of the largest, and what is not finite is never small. Assumes
-- nothing.
use Prim.Native.Nat.{ℕ, ◌*◌, ◌≤◌, ◌<◌}
use mathlib.Core.Bool.{Bool, true, false, false≢true, cond, not, ◌&&◌, ◌||◌}
use mathlib.Core.List.Memᴰ
use mathlib.Core.List.{List, [], ◌∷◌, Memᴰ}
use mathlib.Core.Logic.{◌⊎◌, inl, inr}
use mathlib.Core.Path.{◌≡◌, refl, sym, ap, ◌∙◌}
use native.Mathlib.Nat.{le_trans, le_of_eq, mul_right_comm, mul-le-mul_right, le_of_mul-le-mul_right}
use native.Mathlib.Omega.{arith}
use borrow.Author.Tests.{ltb-true, ltb-false, eq-eqb, eqb-true}
use lib.Dec.{ltb, eqb}
use lib.IntN.{ℤ}
use lib.Ieee.{Float, nan, inf, fin, lt, eq, le, is_nan, up, down, of_bits}
use lib.Ieee.Fits.{down_pos}
use lib.Ieee.Scale.{finite}
use Rattle.loops.specs.Turns.{fold}
use Rattle.floats.specs.Largest.{larger_abs, max_abs_of, AllWithin, counts_as, IsLargest}
use Rattle.floats.specs.Magnitude.{abs_of, max_of}
use Rattle.floats.specs.Ops.{zero⁺}

-- ---- magnitudes in order, as fractions multiplied out

of_test : (a b : ℕ) (s t : Bool) → ltb a b ≡ s → eqb a b ≡ t → s || (t && true) ≡ true → a ≤ b
of_test a b true t p q h = omega (arith, ltb-true a b p)
of_test a b false true p q h = omega (arith, eqb-true a b q)
of_test a b false false p q h = let z : ◌≡◌ {A = ℕ} 0 1 = cc in absurd (omega arith)

to-test : (a b : ℕ) (s : Bool) → ltb a b ≡ s → a ≤ b → s || (eqb a b && true) ≡ true
to-test a b true p h = refl
to-test a b false p h = rw (eq-eqb a b (omega (arith, ltb-false a b p)))

-- a/d ≤ b/e ≤ c/f
chain : (a b c d e f : ℕ) → 0 < e → a * e ≤ b * d → b * f ≤ c * e → a * f ≤ c * d
chain a b c d e f pos h k =
    le_of_mul-le-mul_right
    (le_trans (le_of_eq (mul_right_comm a f e))
    (le_trans (mul-le-mul_right f h) (le_trans (le_of_eq (mul_right_comm b d f)) (le_trans (mul-le-mul_right d k) (le_of_eq (mul_right_comm c e d))))))
    pos

module _ (m n : ℕ) (e d : ℤ) where
  le_of : m * up e * down d ≤ n * up d * down e → le (fin false m e) (fin false n d) ≡ true
  unfolding le
  le_of h = to-test (m * up e * down d) (n * up d * down e) _ refl h

  of_le : le (fin false m e) (fin false n d) ≡ true → m * up e * down d ≤ n * up d * down e
  unfolding le
  of_le h = of_test (m * up e * down d) (n * up d * down e) _ _ refl refl h

  below-le : lt (fin false m e) (fin false n d) ≡ true → le (fin false m e) (fin false n d) ≡ true
  unfolding lt
  below-le h = le_of (omega (arith, ltb-true (m * up e * down d) (n * up d * down e) h))

  above-le : lt (fin false m e) (fin false n d) ≡ false → n * up d * down e ≤ m * up e * down d
  unfolding lt
  above-le h = ltb-false (m * up e * down d) (n * up d * down e) h

-- ---- no NaN, and no sign

abbrev not_negative : Float → Bool
not_negative nan = false
not_negative (inf s) = not s
not_negative (fin s m e) = not s

counts_up : (a : Float) → not_negative (counts_as a) ≡ true
counts_up nan = refl
counts_up (inf s) = refl
counts_up (fin s m e) = refl

is_number : (m : Float) → not_negative m ≡ true → is_nan m ≡ false
unfolding is_nan
is_number nan h = cc
is_number (inf s) h = refl
is_number (fin s m e) h = refl

only-infinity : (m : Float) → le (inf false) m ≡ true → m ≡ inf false
unfolding le lt eq
only-infinity nan h = cc
only-infinity (inf true) h = cc
only-infinity (inf false) h = refl
only-infinity (fin s m e) h = cc

-- m ≤ b ≤ n
between : (m n : ℕ) (e d : ℤ) (b : Float) → not_negative b ≡ true → le (fin false m e) b ≡ true → le b (fin false n d) ≡ true → le (fin false m e) (fin false n d) ≡ true
unfolding le lt eq
between m n e d nan q h k = cc
between m n e d (inf true) q h k = cc
between m n e d (inf false) q h k = cc
between m n e d (fin true i j) q h k = cc
between m n e d (fin false i j) q h k =
    le_of m n e d (chain (m * up e) (i * up j) (n * up d) (down e) (down j) (down d) (down_pos j) (of_le m i e j h) (of_le i n j d k))

from-finite : (m : ℕ) (e : ℤ) (b c : Float) → not_negative b ≡ true → not_negative c ≡ true → le (fin false m e) b ≡ true → le b c ≡ true → le (fin false m e) c ≡ true
unfolding le lt eq
from-finite m e b nan q r h k = cc
from-finite m e b (inf true) q r h k = cc
from-finite m e b (inf false) q r h k = refl
from-finite m e b (fin true n d) q r h k = cc
from-finite m e b (fin false n d) q r h k = between m n e d b q h k

in-turn : (a b c : Float) → not_negative a ≡ true → not_negative b ≡ true → not_negative c ≡ true → le a b ≡ true → le b c ≡ true → le a c ≡ true
in-turn nan b c p q r h k = cc
in-turn (inf true) b c p q r h k = cc
in-turn (inf false) b c p q r h k = rw (only-infinity b h) at k
in-turn (fin true m e) b c p q r h k = cc
in-turn (fin false m e) b c p q r h k = from-finite m e b c q r h k

-- ---- one number more

-- it is what there was, or what the number counts as, and neither is above it
record OneMore (m a r : Float) : Type 0 where
  up_from : le m r ≡ true
  above : le (counts_as a) r ≡ true
  either : (r ≡ m) ⊎ (r ≡ counts_as a)

le-self : (m : Float) → not_negative m ≡ true → le m m ≡ true
unfolding le lt eq
le-self nan h = cc
le-self (inf true) h = cc
le-self (inf false) h = refl
le-self (fin true i j) h = cc
le-self (fin false i j) h = le_of i i j j (omega arith)

le-infinity : (m : Float) → not_negative m ≡ true → le m (inf false) ≡ true
unfolding le lt eq
le-infinity nan h = cc
le-infinity (inf true) h = cc
le-infinity (inf false) h = refl
le-infinity (fin true i j) h = cc
le-infinity (fin false i j) h = refl

one-more : (m a : Float) → not_negative m ≡ true → OneMore m a (larger_abs m a)
unfolding larger_abs max_of le lt eq is_nan
one-more m nan h = record { up_from = le-infinity m h; above = refl; either = inr refl }
one-more m (inf s) h = record { up_from = le-infinity m h; above = refl; either = inr refl }
one-more nan (fin s n d) h = absurd (false≢true h)
one-more (inf true) (fin s n d) h = absurd (false≢true h)
one-more (inf false) (fin s n d) h = record { up_from = refl; above = refl; either = inl refl }
one-more (fin true i j) (fin s n d) h = absurd (false≢true h)
one-more (fin false i j) (fin s n d) h = pick _ refl
  where
    pick : (b : Bool) → lt (fin false i j) (fin false n d) ≡ b → OneMore (fin false i j) (fin s n d) (cond (b || false) (fin false n d) (fin false i j))
    pick true e = record { up_from = below-le i n j d e; above = le_of n n d d (omega arith); either = inr refl }
    pick false e = record { up_from = le_of i i j j (omega arith); above = le_of n i d j (above-le i n j d e); either = inl refl }

larger : (m a : Float) → not_negative m ≡ true → not_negative (larger_abs m a) ≡ true
larger m a h = of (one-more m a h).either
  where
    of : (larger_abs m a ≡ m) ⊎ (larger_abs m a ≡ counts_as a) → not_negative (larger_abs m a) ≡ true
    of (inl e) = rw e h
    of (inr e) = rw e (counts_up a)

-- ---- and all of them, from m on

record Risen (l : List Float) (m r : Float) : Type 0 where
  plain : not_negative r ≡ true
  up_from : le m r ≡ true
  above : (a : Float) → Memᴰ a l → le (counts_as a) r ≡ true
  either : (r ≡ m) ⊎ ((a : Float) × Memᴰ a l × (r ≡ counts_as a))

more : (a m s r : Float) (l : List Float) → not_negative m ≡ true → not_negative s ≡ true → OneMore m a s → Risen l s r → Risen (a ∷ l) m r
more a m s r l h k one rest = record {
  plain = rest.plain;
  up_from = in-turn m s r h k rest.plain one.up_from rest.up_from;
  above = λ v i. of v (Memᴰ.cases_cons i);
  either = which rest.either one.either;
}
  where
    of : (v : Float) → (v ≡ a) ⊎ Memᴰ v l → le (counts_as v) r ≡ true
    of v (inl e) = rw e (in-turn (counts_as a) s r (counts_up a) k rest.plain one.above rest.up_from)
    of v (inr i) = rest.above v i

    which : (r ≡ s) ⊎ ((v : Float) × Memᴰ v l × (r ≡ counts_as v)) → (s ≡ m) ⊎ (s ≡ counts_as a) → (r ≡ m) ⊎ ((v : Float) × Memᴰ v (a ∷ l) × (r ≡ counts_as v))
    which (inl e) (inl q) = inl (e ∙ q)
    which (inl e) (inr q) = inr (a, Memᴰ.head refl, e ∙ q)
    which (inr t) q = inr (t.0, Memᴰ.tail t.1, t.2)

rise : (l : List Float) (m : Float) → not_negative m ≡ true → Risen l m (fold larger_abs m l)
rise [] m h = record { plain = h; up_from = le-self m h; above = λ a i. absurd (Memᴰ.not-nil i); either = inl refl }
rise (a ∷ l) m h = more a m (larger_abs m a) _ l h (larger m a h) (one-more m a h) (rise l (larger_abs m a) (larger m a h))

risen : (l : List Float) → Risen l zero⁺ (max_abs_of l)
unfolding max_abs_of of_bits
risen l = rise l zero⁺ refl

-- ---- infinite, and at most a bound

counts-infinite : (a : Float) → counts_as a ≡ inf false → finite a ≡ false
counts-infinite nan h = refl
counts-infinite (inf s) h = refl
counts-infinite (fin s m e) h = cc

pub largest : (l : List Float) → IsLargest l (max_abs_of l)
unfolding of_bits
largest l =
    let r = risen l in
    record { number = is_number (max_abs_of l) r.plain; above = r.above; one_of = r.either; infinite = (λ h. of r.either h, λ t. only-infinity (max_abs_of l) (rw t.2 at (r.above t.0 t.1))) }
  where
    of : (max_abs_of l ≡ zero⁺) ⊎ ((a : Float) × Memᴰ a l × (max_abs_of l ≡ counts_as a)) → max_abs_of l ≡ inf false
        → (a : Float) × Memᴰ a l × (finite a ≡ false)
    of (inl e) h = absurd (false≢true (ap finite (sym h ∙ e)))
    of (inr t) h = (t.0, t.1, counts-infinite t.0 (sym t.2 ∙ h))

within : (a t : Float) → finite t ≡ true → le (counts_as a) t ≡ true → (finite a ≡ true) × (le (abs_of a) t ≡ true)
within nan t f h = absurd (false≢true (rw (only-infinity t h) at f))
within (inf s) t f h = absurd (false≢true (rw (only-infinity t h) at f))
within (fin s m e) t f h = (refl, h)

pub all-within : (t : Float) (l : List Float) → finite t ≡ true → not_negative t ≡ true → le (max_abs_of l) t ≡ true → AllWithin t l
all-within t l f s h a i =
    let r = risen l in
    within a t f (in-turn (counts_as a) (max_abs_of l) t (counts_up a) r.plain s (r.above a i) h)
