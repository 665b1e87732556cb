-- `places_from` lists the places that hold a number, and rises. Assumes nothing.
use Prim.Native.Nat.{ℕ, zero, suc, ◌+◌, ◌<◌}
use mathlib.Core.Bool.{Bool, true, false, cond}
use mathlib.Core.List.Memᴰ
use mathlib.Core.List.{List, [], ◌∷◌, Memᴰ}
use mathlib.Core.Logic.{◌⊎◌, inl, inr}
use mathlib.Core.Path.{◌≡◌, refl}
use native.Mathlib.Nat.{not-suc-le-zero, le_of_suc-le-suc}
use native.Mathlib.Omega.{arith}
use borrow.Author.Tests.{eqb-true, eq-eqb}
use lib.Dec.{eqb}
use lib.ListN.{length, get_or}
use Rattle.groups.specs.Chains.{places_from, Rises}

-- p is the place y past i
Held : ℕ → List ℕ → ℕ → ℕ → Type 0
Held i l j p = (y : ℕ) × (p ≡ i + y) × (y < length l) × (get_or l y 40 ≡ j)

held_next : (i x : ℕ) (l : List ℕ) (j p : ℕ) → Held (suc i) l j p → Held i (x ∷ l) j p
unfolding Held
held_next i x l j p h = (suc h.0, omega (arith, h.1), omega (arith, h.2), h.3)

held : (i : ℕ) (l : List ℕ) (j p : ℕ) → Memᴰ p (places_from i l j) → Held i l j p
unfolding places_from Held
held i [] j p m = absurd (Memᴰ.not-nil m)
held i (x ∷ l) j p m = go (eqb x j) refl m (λ n. held_next i x l j p (held (suc i) l j p n))
  where
    at : eqb x j ≡ true → (p ≡ i) ⊎ Memᴰ p (places_from (suc i) l j) → (Memᴰ p (places_from (suc i) l j) → Held i (x ∷ l) j p) → Held i (x ∷ l) j p
    at e (inl h) r = (0, omega arith, omega arith, eqb-true x j e)
    at e (inr n) r = r n

    go : (b : Bool) → eqb x j ≡ b → Memᴰ p (cond b (i ∷ places_from (suc i) l j) (places_from (suc i) l j))
        → (Memᴰ p (places_from (suc i) l j) → Held i (x ∷ l) j p) → Held i (x ∷ l) j p
    go true e m r = at e (Memᴰ.cases_cons m) r
    go false e m r = r m

put : (i : ℕ) (l : List ℕ) (j y : ℕ) → y < length l → get_or l y 40 ≡ j → Memᴰ (i + y) (places_from i l j)
unfolding places_from
put i [] j y h e = absurd (not-suc-le-zero h)
put i (x ∷ l) j zero h e = rw (eq-eqb x j e) (let q : i + 0 ≡ i = omega arith in Memᴰ.head q)
put i (x ∷ l) j (suc y) h e =
    let q : suc i + y ≡ i + suc y = omega arith in
    go (eqb x j) (rw q at (put (suc i) l j y (le_of_suc-le-suc h) e))
  where
    go : (b : Bool) → Memᴰ (i + suc y) (places_from (suc i) l j)
        → Memᴰ (i + suc y) (cond b (i ∷ places_from (suc i) l j) (places_from (suc i) l j))
    go true m = Memᴰ.tail m
    go false m = m

pub rises : (i : ℕ) (l : List ℕ) (j : ℕ) → Rises (places_from i l j)
unfolding places_from Held
rises i [] j = tt
rises i (x ∷ l) j = go (eqb x j) (rises (suc i) l j)
  where
    above : (y : ℕ) → Memᴰ y (places_from (suc i) l j) → i < y
    above y m = let h = held (suc i) l j y m in omega (arith, h.1)

    go : (b : Bool) → Rises (places_from (suc i) l j) → Rises (cond b (i ∷ places_from (suc i) l j) (places_from (suc i) l j))
    go true r = (above, r)
    go false r = r

module _ (l : List ℕ) (j p : ℕ) where
  pub place-holds : Memᴰ p (places_from 0 l j) → get_or l p 40 ≡ j
  unfolding Held
  place-holds m =
      let h = held 0 l j p m in
      let e : p ≡ h.0 = omega (arith, h.1) in
      rw e h.3

  pub placed : p < length l → get_or l p 40 ≡ j → Memᴰ p (places_from 0 l j)
  placed h e = let q : 0 + p ≡ p = omega arith in rw q at (put 0 l j p h e)
