-- `tied_of` says of each point whether an equation touches it. Assumes nothing.
use Prim.Native.Nat.{ℕ, ◌+◌, ◌<◌}
use mathlib.Core.Bool.{Bool, true, false}
use mathlib.Core.List.Memᴰ
use mathlib.Core.List.{List, [], ◌∷◌, Memᴰ}
use mathlib.Core.Logic.{◌⊎◌, inl, inr}
use mathlib.Core.Path.{◌≡◌, refl, sym, ◌∙◌, subst}
use native.Mathlib.Decide.{ℕ_discrete, dec_lt}
use native.Mathlib.Nat.{not-suc-le-zero}
use native.Mathlib.Omega.{arith}
use lib.Dec.{T}
use lib.ListN.{length, get_or, set, replicate, length-set, get_or-eq_default, get_or-replicate}
use lib.Seq.{get_or-set_same, get_or-set_other, set_out}
use Rattle.loops.specs.Turns.{fold}
use Rattle.groups.specs.Chains.{Touches, Tied}
use Rattle.groups.specs.Tied.{tie_to, tie_all, tied_in, tied_of}
use Rattle.loops.proofs.Keeps.{up_to-keeps}

abbrev pub tied_at : List Bool → ℕ → Bool
tied_at s p = get_or s p false

tie-sized : (pts : List ℕ) (s : List Bool) → length (fold tie_to s pts) ≡ length s
unfolding tie_to
tie-sized [] s = refl
tie-sized (q ∷ pts) s = tie-sized pts (set s q true) ∙ length-set s q true

set_keeps : (s : List Bool) (q p : ℕ) → tied_at s p ≡ true → tied_at (set s q true) p ≡ true
set_keeps s q p e = go (ℕ_discrete p q) (dec_lt q (length s))
  where
    go : Dec (p ≡ q) → Dec (q < length s) → tied_at (set s q true) p ≡ true
    go (yes h) (yes l) = rw h (get_or-set_same s q true false l)
    go (yes h) (no n) = rw (set_out s q true (omega arith)) e
    go (no n) d = get_or-set_other s q p true false n ∙ e

set-only : (s : List Bool) (q p : ℕ) → tied_at (set s q true) p ≡ true → (tied_at s p ≡ true) ⊎ (p ≡ q)
set-only s q p e = go (ℕ_discrete p q)
  where
    go : Dec (p ≡ q) → (tied_at s p ≡ true) ⊎ (p ≡ q)
    go (yes h) = inr h
    go (no n) = inl (sym (get_or-set_other s q p true false n) ∙ e)

tie-keeps : (pts : List ℕ) (s : List Bool) (p : ℕ) → tied_at s p ≡ true → tied_at (fold tie_to s pts) p ≡ true
unfolding tie_to
tie-keeps [] s p e = e
tie-keeps (q ∷ pts) s p e = tie-keeps pts (set s q true) p (set_keeps s q p e)

tie-all : (pts : List ℕ) (s : List Bool) (p : ℕ) → p < length s → Memᴰ p pts → tied_at (fold tie_to s pts) p ≡ true
unfolding tie_to
tie-all [] s p h m = absurd (Memᴰ.not-nil m)
tie-all (q ∷ pts) s p h m =
    go (Memᴰ.cases_cons m) (λ d. tie-all pts (set s q true) p (rw (length-set s q true) h) d)
  where
    go : (p ≡ q) ⊎ Memᴰ p pts → (Memᴰ p pts → tied_at (fold tie_to (set s q true) pts) p ≡ true) → tied_at (fold tie_to (set s q true) pts) p ≡ true
    go (inl e) r = tie-keeps pts (set s q true) p (rw e (get_or-set_same s q true false (rw e at h)))
    go (inr d) r = r d

tie-only : (pts : List ℕ) (s : List Bool) (p : ℕ) → tied_at (fold tie_to s pts) p ≡ true → (tied_at s p ≡ true) ⊎ Memᴰ p pts
unfolding tie_to
tie-only [] s p e = inl e
tie-only (q ∷ pts) s p e = go (tie-only pts (set s q true) p e)
  where
    at : (tied_at s p ≡ true) ⊎ (p ≡ q) → (tied_at s p ≡ true) ⊎ Memᴰ p (q ∷ pts)
    at (inl h) = inl h
    at (inr h) = inr (Memᴰ.head h)

    go : (tied_at (set s q true) p ≡ true) ⊎ Memᴰ p pts → (tied_at s p ≡ true) ⊎ Memᴰ p (q ∷ pts)
    go (inl h) = at (set-only s q p h)
    go (inr m) = inr (Memᴰ.tail m)

none-tied : (p : ℕ) → tied_at (replicate 40 false) p ≡ true → ⊥
none-tied p e = go (dec_lt p 40)
  where
    go : Dec (p < 40) → ⊥
    go (yes h) = subst T (sym e ∙ get_or-replicate 40 p false false h) tt
    go (no n) = subst T (sym e ∙ get_or-eq_default (replicate 40 false) false {n = p} (omega arith)) tt

module _ (t : ℕ → List ℕ) (n : ℕ) (inside : (k p : ℕ) → Touches t k p → p < 40) where
  -- what is tied once the first k equations have been gone through
  record Told (k : ℕ) (s : List Bool) : Type 0 where
    sized : length s ≡ 40
    all : (j p : ℕ) → j < k → Touches t j p → tied_at s p ≡ true
    only : (p : ℕ) → tied_at s p ≡ true → Tied t p

  told-next : (k : ℕ) (s : List Bool) → k < n → Told k s → Told (k + 1) (tie_all (t k) s)
  unfolding tie_all
  told-next k s h d = record {
    sized = tie-sized (t k) s ∙ d.sized;
    all = λ j p l m. earlier j p l m (ℕ_discrete j k);
    only = λ p e. either p (tie-only (t k) s p e);
  }
    where
      earlier : (j p : ℕ) → j < k + 1 → Touches t j p → Dec (j ≡ k) → tied_at (fold tie_to s (t k)) p ≡ true
      earlier j p l m (yes e) = tie-all (t k) s p (rw d.sized (inside j p m)) (rw e at m)
      earlier j p l m (no i) = tie-keeps (t k) s p (d.all j p (omega arith) m)

      either : (p : ℕ) → (tied_at s p ≡ true) ⊎ Memᴰ p (t k) → Tied t p
      either p (inl e) = d.only p e
      either p (inr m) = (k, m)

  told : Told n (tied_of t n)
  unfolding tied_in
  told =
      up_to-keeps Told (λ k. tie_all (t k)) n told-next 0 (replicate 40 false) (omega arith)
      (record { sized = refl; all = λ j p l. absurd (not-suc-le-zero l); only = λ p e. absurd (none-tied p e) })

  pub tied-all : (k p : ℕ) → k < n → Touches t k p → tied_at (tied_of t n) p ≡ true
  tied-all k p h m = told.all k p h m

  pub tied-only : (p : ℕ) → tied_at (tied_of t n) p ≡ true → Tied t p
  tied-only p e = told.only p e
