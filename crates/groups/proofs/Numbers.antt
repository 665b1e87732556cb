-- The number that each point and each equation gets: how many leading points, tied points that are their own roots, come before
-- its root. Assumes nothing.
use Prim.Native.Nat.{ℕ, zero, suc, ◌+◌, ◌-◌, ◌≤◌, ◌<◌}
use mathlib.Core.Bool.{Bool, true, false, cond}
use mathlib.Core.List.{List}
use mathlib.Core.Logic.{◌≢◌}
use mathlib.Core.Path.{◌≡◌, refl, sym, subst}
use native.Mathlib.Decide.{ℕ_discrete}
use native.Mathlib.Nat.{not-suc-le-zero}
use native.Mathlib.Omega.{arith}
use borrow.Author.Tests.{eq-eqb, ne_eqb, eqb-true}
use lib.Dec.{T, eqb}
use Rattle.groups.proofs.Forest.{rt}
use Rattle.groups.proofs.Ties.{tied_at}

-- p leads its group: it is tied, and its own root
pub leads : List Bool → List ℕ → ℕ → Bool
leads tied ps p = cond (tied_at tied p) (eqb (rt ps p) p) false

-- how many lead below q
pub before : List Bool → List ℕ → ℕ → ℕ
before tied ps zero = 0
before tied ps (suc q) = cond (leads tied ps q) (suc (before tied ps q)) (before tied ps q)

module _ (tied : List Bool) (ps : List ℕ) where
  abbrev pub Leads : ℕ → Type 0
  Leads p = leads tied ps p ≡ true

  pub lead : (p : ℕ) → tied_at tied p ≡ true → rt ps p ≡ p → Leads p
  unfolding leads
  lead p e r = rw (e, eq-eqb (rt ps p) p r)

  pub lead-not : (p : ℕ) → rt ps p ≢ p → leads tied ps p ≡ false
  unfolding leads
  lead-not p n = rw (ne_eqb (rt ps p) p n) (same (tied_at tied p))
    where
      same : (b : Bool) → cond b false false ≡ false
      same true = refl
      same false = refl

  pub untied-not : (p : ℕ) → tied_at tied p ≡ false → leads tied ps p ≡ false
  unfolding leads
  untied-not p e = rw e

  pub lead-tied : (p : ℕ) → Leads p → tied_at tied p ≡ true
  unfolding leads
  lead-tied p h = go (tied_at tied p) h
    where
      go : (b : Bool) → cond b (eqb (rt ps p) p) false ≡ true → b ≡ true
      go true h = refl
      go false h = h

  pub lead-root : (p : ℕ) → Leads p → rt ps p ≡ p
  unfolding leads
  lead-root p h = eqb-true (rt ps p) p (go (tied_at tied p) h)
    where
      go : (b : Bool) → cond b (eqb (rt ps p) p) false ≡ true → eqb (rt ps p) p ≡ true
      go true h = h
      go false h = absurd (subst T (sym h) tt)

  pub before-zero : before tied ps 0 ≡ 0
  unfolding before
  before-zero = refl

  pub before-yes : (q : ℕ) → Leads q → before tied ps (suc q) ≡ suc (before tied ps q)
  unfolding before
  before-yes q e = rw e

  pub before-no : (q : ℕ) → leads tied ps q ≡ false → before tied ps (suc q) ≡ before tied ps q
  unfolding before
  before-no q e = rw e

  step-le : (q : ℕ) → before tied ps q ≤ before tied ps (suc q)
  step-le q = go (leads tied ps q) refl
    where
      go : (b : Bool) → leads tied ps q ≡ b → before tied ps q ≤ before tied ps (suc q)
      go true e = omega (arith, before-yes q e)
      go false e = omega (arith, before-no q e)

  step-ge : (q : ℕ) → before tied ps (suc q) ≤ suc (before tied ps q)
  step-ge q = go (leads tied ps q) refl
    where
      go : (b : Bool) → leads tied ps q ≡ b → before tied ps (suc q) ≤ suc (before tied ps q)
      go true e = omega (arith, before-yes q e)
      go false e = omega (arith, before-no q e)

  pub before-le : (q : ℕ) → before tied ps q ≤ q
  unfolding before
  before-le zero = omega arith
  before-le (suc q) = omega (arith, step-ge q, before-le q)

  pub before-mono : (i k : ℕ) → before tied ps i ≤ before tied ps (i + k)
  before-mono i zero = let e : i + 0 ≡ i = omega arith in rw e (omega arith)
  before-mono i (suc k) = let e : i + suc k ≡ suc (i + k) = omega arith in rw e (omega (arith, before-mono i k, step-le (i + k)))

  pub before-lt : (i j : ℕ) → Leads i → i < j → before tied ps i < before tied ps j
  before-lt i j e h =
      let k = j - suc i in
      let q : suc i + k ≡ j = omega arith in
      rw q at (go k)
    where
      go : (k : ℕ) → before tied ps i < before tied ps (suc i + k)
      go k = omega (arith, before-yes i e, before-mono (suc i) k)

  -- the numbers are given in turn
  pub before-find : (n j : ℕ) → j < before tied ps n → (r : ℕ) × (r < n) × Leads r × (before tied ps r ≡ j)
  before-find zero j h = absurd (not-suc-le-zero (rw before-zero at h))
  before-find (suc n) j h = go (leads tied ps n) refl (ℕ_discrete j (before tied ps n)) (λ l. before-find n j l)
    where
      up_one : (r : ℕ) × (r < n) × Leads r × (before tied ps r ≡ j) → (r : ℕ) × (r < suc n) × Leads r × (before tied ps r ≡ j)
      up_one f = (f.0, omega (arith, f.1), f.2, f.3)

      go : (b : Bool) → leads tied ps n ≡ b → Dec (j ≡ before tied ps n)
          → (j < before tied ps n → (r : ℕ) × (r < n) × Leads r × (before tied ps r ≡ j))
          → (r : ℕ) × (r < suc n) × Leads r × (before tied ps r ≡ j)
      go true e (yes q) f = (n, omega arith, e, sym q)
      go true e (no q) f = up_one (f (omega (arith, before-yes n e)))
      go false e d f = up_one (f (omega (arith, before-no n e)))
