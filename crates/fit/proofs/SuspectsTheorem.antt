-- `suspects-exactly` (specs/Groups.antt): the marks are those of the group's own equations without which it converges. Assumes nothing.
use Prim.Native.Nat.{ℕ, ◌<◌}
use mathlib.Core.Bool.{Bool, true, false}
use mathlib.Core.List.Memᴰ
use mathlib.Core.List.{List, [], ◌∷◌, Memᴰ}
use mathlib.Core.Logic.{◌⊎◌, inl, inr, ◌≢◌}
use mathlib.Core.Path.{◌≡◌, refl, sym, ◌∙◌}
use native.Mathlib.Decide.{ℕ_discrete}
use native.Mathlib.Omega.{arith}
use lib.ListN.{length, get_or, replicate, length-set, length-replicate, get_or-replicate}
use lib.Seq.{get_or-set_same, get_or-set_other}
use Rattle.groups.specs.declared.Grouping.{Grouping}
use Rattle.loops.specs.Turns.{fold}
use Rattle.members.specs.Lists.{numbers_of}
use Rattle.sketch.specs.declared.Build.{Build}
use Rattle.fit.specs.Fits.{suspect, mark, suspects_of}
use Rattle.fit.specs.Groups.{frame_in, SuspectsExactly}
use Rattle.fit.specs.declared.Frame.{Frame}
use Rattle.fit.proofs.Sets.{equations-back}

module _ (b : Build) (f : Frame) (k : ℕ) where
  long : (marks : List Bool) (a : ℕ) → k < length marks → k < length (mark b f marks a)
  unfolding mark
  long marks a h = rw length-set h

  same : (marks : List Bool) (a : ℕ) → k < length marks → k ≡ a → get_or (mark b f marks a) k false ≡ suspect b f k
  unfolding mark
  same marks a h e = rw (← e) (get_or-set_same marks k (suspect b f k) false h)

  other : (marks : List Bool) (a : ℕ) → k ≢ a → get_or (mark b f marks a) k false ≡ get_or marks k false
  unfolding mark
  other marks a e = get_or-set_other marks a k (suspect b f a) false e

  -- what is right stays right
  stays : (l : List ℕ) (marks : List Bool) → k < length marks → get_or marks k false ≡ suspect b f k → get_or (fold (mark b f) marks l) k false ≡ suspect b f k
  stays [] marks h e = e
  stays (a ∷ l) marks h e = stays l (mark b f marks a) (long marks a h) (turn (ℕ_discrete k a))
    where
      turn : Dec (k ≡ a) → get_or (mark b f marks a) k false ≡ suspect b f k
      turn (yes q) = same marks a h q
      turn (no q) = other marks a q ∙ e

  -- each of the list is marked rightly
  marked : (l : List ℕ) (marks : List Bool) → k < length marks → Memᴰ k l → get_or (fold (mark b f) marks l) k false ≡ suspect b f k
  marked [] marks h m = absurd (Memᴰ.not-nil m)
  marked (a ∷ l) marks h m = of (Memᴰ.cases_cons m) (marked l (mark b f marks a) (long marks a h))
    where
      of : (k ≡ a) ⊎ Memᴰ k l → (Memᴰ k l → get_or (fold (mark b f) (mark b f marks a) l) k false ≡ suspect b f k)
          → get_or (fold (mark b f) (mark b f marks a) l) k false ≡ suspect b f k
      of (inl e) later = stays l (mark b f marks a) (long marks a h) (same marks a h e)
      of (inr n) later = later n

  -- and nothing else is marked
  listed : (l : List ℕ) (marks : List Bool) → get_or (fold (mark b f) marks l) k false ≡ true → Memᴰ k l ⊎ (get_or marks k false ≡ true)
  listed [] marks e = inr e
  listed (a ∷ l) marks e = of (listed l (mark b f marks a) e) (ℕ_discrete k a)
    where
      of : Memᴰ k l ⊎ (get_or (mark b f marks a) k false ≡ true) → Dec (k ≡ a) → Memᴰ k (a ∷ l) ⊎ (get_or marks k false ≡ true)
      of (inl m) d = inl (Memᴰ.tail m)
      of (inr p) (yes q) = inl (Memᴰ.head q)
      of (inr p) (no q) = inr (sym (other marks a q) ∙ p)

  unmarked : Memᴰ k (numbers_of f.equations.0) ⊎ (get_or (replicate 40 false) k false ≡ true) → k < 40 → Memᴰ k (numbers_of f.equations.0)
  unmarked (inl m) h = m
  unmarked (inr p) h =
      let n : ◌≡◌ {A = Bool} false true = sym (get_or-replicate 40 k false false h) ∙ p in
      let z : ◌≡◌ {A = ℕ} 0 1 = cc in
      absurd (omega arith)

module _ (b : Build) (f : Frame) where
  marked-sized : (l : List ℕ) (marks : List Bool) → length (fold (mark b f) marks l) ≡ length marks
  unfolding mark
  marked-sized [] marks = refl
  marked-sized (a ∷ l) marks = marked-sized l (mark b f marks a) ∙ rw length-set

  -- a mark for each of 40 equations
  pub suspects-sized : length (suspects_of b f) ≡ 40
  unfolding suspects_of
  suspects-sized = marked-sized (numbers_of f.equations.0) (replicate 40 false) ∙ length-replicate 40 false

module _ (b : Build) (gr : Grouping) (g : ℕ) where
  pub suspects-exactly : SuspectsExactly b gr g
  unfolding suspects_of suspect
  suspects-exactly k h =
      let f = frame_in b gr g in
      let own = numbers_of f.equations.0 in
      let long : k < length (replicate 40 false) = rw (length-replicate 40 false) h in (
        λ e. let m = unmarked b f k (listed b f k own (replicate 40 false) e) h in (rw (equations-back b.points gr g) at m, rw (equations-back b.points gr g) at (sym (marked b f k own (replicate 40 false) long m) ∙ e)),
        λ e. marked b f k own (replicate 40 false) long (rw (equations-back b.points gr g) e.0) ∙ rw (equations-back b.points gr g) e.1,
      )
