-- Laws of the parents. A point's rank falls on the way up: fixed points come first, and then the others, each by number. A
-- function ρ is the parents' roots if a point shares its root with its parent and a root is its own.
--     rooted       what ρ gives is a root, and of no higher rank
--     find-has     `find_of` leaves parents of the same roots
--     find-is      and answers the root: its turns are enough
-- Assumes nothing.
use Prim.Native.Nat.{ℕ, zero, suc, ◌+◌, ◌≤◌, ◌<◌}
use mathlib.Core.Bool.{Bool, true, false, not, cond}
use mathlib.Core.List.{List}
use mathlib.Core.Logic.{◌⊎◌, inl, inr, ◌≢◌}
use mathlib.Core.Path.{◌≡◌, refl, sym, ap, ◌∙◌, subst}
use native.Mathlib.Decide.{ℕ_discrete, dec_lt}
use native.Mathlib.Omega.{arith}
use borrow.Author.Tests.{eqb-true, eqb-false}
use lib.Dec.{T, eqb}
use lib.ListN.{length, get_or, set, length-set, get_or-eq_default}
use lib.Seq.{get_or-set_same, get_or-set_other, set_out}
use Rattle.loops.specs.Turns.{whiles, while_to}
use Rattle.level.specs.Parents.{up, Gives, below, skipped, halved, find_of}

abbrev pub fixed_at : List Bool → ℕ → Bool
fixed_at fixed x = get_or fixed x false

abbrev pub ranked : Bool → ℕ → ℕ
ranked true x = x
ranked false x = 40 + x

abbrev pub rank : List Bool → ℕ → ℕ
rank fixed x = ranked (fixed_at fixed x) x

-- a fixed point is in the table
pub fixed_in : (fixed : List Bool) (x : ℕ) → fixed_at fixed x ≡ true → x < length fixed
fixed_in fixed x e = go (dec_lt x (length fixed))
  where
    go : Dec (x < length fixed) → x < length fixed
    go (yes h) = h
    go (no n) = absurd (subst T (sym e ∙ get_or-eq_default fixed false {n = x} (omega arith)) tt)

-- after a store a point's parent is what was stored, or what it was
pub stored : (ps : List ℕ) (x v y : ℕ) → ((y ≡ x) × (x < length ps) × (up (set ps x v) y ≡ v)) ⊎ (up (set ps x v) y ≡ up ps y)
stored ps x v y = go (ℕ_discrete y x) (dec_lt x (length ps))
  where
    go : Dec (y ≡ x) → Dec (x < length ps) → ((y ≡ x) × (x < length ps) × (up (set ps x v) y ≡ v)) ⊎ (up (set ps x v) y ≡ up ps y)
    go (no n) d = inr (get_or-set_other ps x y v y n)
    go (yes e) (yes h) = inl (e, h, rw e (get_or-set_same ps x v x h))
    go (yes e) (no n) = inr (ap (λ l. up l y) (set_out ps x v (omega arith)))

module _ (fixed : List Bool) (few : length fixed ≤ 40) where
  rank-one : (b c : Bool) (x y : ℕ) → (b ≡ true → x < 40) → (c ≡ true → y < 40) → ranked b x ≡ ranked c y → x ≡ y
  rank-one true true x y i j e = e
  rank-one true false x y i j e = absurd (omega (arith, i refl))
  rank-one false true x y i j e = absurd (omega (arith, j refl))
  rank-one false false x y i j e = omega arith

  pub inside : (x : ℕ) → fixed_at fixed x ≡ true → x < 40
  inside x e = omega (arith, fixed_in fixed x e)

  -- no two points have one rank
  rank-only : (x y : ℕ) → rank fixed x ≡ rank fixed y → x ≡ y
  rank-only x y e = rank-one (fixed_at fixed x) (fixed_at fixed y) x y (inside x) (inside y) e

  -- the ranks of the 40 points are below 80, and no other point's are
  pub rank-small : (x : ℕ) → x < 40 → rank fixed x < 80
  rank-small x h = go (fixed_at fixed x)
    where
      go : (b : Bool) → ranked b x < 80
      go true = omega arith
      go false = omega arith

  pub rank-inside : (x : ℕ) → rank fixed x < 80 → x < 40
  rank-inside x h = go (fixed_at fixed x) (inside x) h
    where
      go : (b : Bool) → (b ≡ true → x < 40) → ranked b x < 80 → x < 40
      go true i h = i refl
      go false i h = omega arith

  -- ps are the parents of 40 points, and ρ their roots
  pub record Has (ps : List ℕ) (ρ : ℕ → ℕ) : Type 0 where
    pub sized : length ps ≡ 40
    pub falls : (x : ℕ) → rank fixed (up ps x) ≤ rank fixed x
    pub same : (x : ℕ) → ρ (up ps x) ≡ ρ x
    pub top : (x : ℕ) → up ps x ≡ x → ρ x ≡ x

  module _ (ps : List ℕ) (ρ : ℕ → ℕ) (has : Has ps ρ) where
    lower : (x : ℕ) → up ps x ≢ x → rank fixed (up ps x) < rank fixed x
    lower x n =
        let d : rank fixed (up ps x) ≢ rank fixed x = λ e. n (rank-only (up ps x) x e) in
        omega (arith, has.falls x)

    rooted-in : (k x : ℕ) → rank fixed x ≤ k → (up ps (ρ x) ≡ ρ x) × (rank fixed (ρ x) ≤ rank fixed x)
    rooted-in zero x h = let e : up ps x ≡ x = rank-only (up ps x) x (omega (arith, has.falls x)) in rw (has.top x e) (e, omega arith)
    rooted-in (suc k) x h = go (ℕ_discrete (up ps x) x) (λ l. rooted-in k (up ps x) l)
      where
        go : Dec (up ps x ≡ x) → (rank fixed (up ps x) ≤ k → (up ps (ρ (up ps x)) ≡ ρ (up ps x)) × (rank fixed (ρ (up ps x)) ≤ rank fixed (up ps x)))
            → (up ps (ρ x) ≡ ρ x) × (rank fixed (ρ x) ≤ rank fixed x)
        go (yes e) r = rw (has.top x e) (e, omega arith)
        go (no n) r =
            let l : rank fixed (up ps x) < rank fixed x = lower x n in
            let m = r (omega arith) in
            let t : up ps (ρ x) ≡ ρ x = rw (has.same x) at m.0 in
            let i : rank fixed (ρ x) ≤ rank fixed (up ps x) = rw (has.same x) at m.1 in
            (t, omega arith)

    pub rooted : (x : ℕ) → (up ps (ρ x) ≡ ρ x) × (rank fixed (ρ x) ≤ rank fixed x)
    rooted x = rooted-in (rank fixed x) x (omega arith)

    -- only one of the 40 points has a parent other than itself
    moves-inside : (x : ℕ) → up ps x ≢ x → x < 40
    moves-inside x n = go (dec_lt x 40)
      where
        go : Dec (x < 40) → x < 40
        go (yes h) = h
        go (no m) = absurd (n (get_or-eq_default ps x (rw has.sized (omega arith))))

    skipped-has : (x : ℕ) → Has (skipped ps x) ρ
    skipped-has x = record {
      sized = length-set ps x (up ps (up ps x)) ∙ has.sized;
      falls = λ y. falls y (stored ps x (up ps (up ps x)) y);
      same = λ y. same y (stored ps x (up ps (up ps x)) y);
      top = λ y t. top y t (stored ps x (up ps (up ps x)) y);
    }
      where
        falls : (y : ℕ) → ((y ≡ x) × (x < length ps) × (up (skipped ps x) y ≡ up ps (up ps x))) ⊎ (up (skipped ps x) y ≡ up ps y)
            → rank fixed (up (skipped ps x) y) ≤ rank fixed y
        falls y (inl e) = rw (e.2, e.0) (omega (arith, has.falls x, has.falls (up ps x)))
        falls y (inr e) = rw e (has.falls y)

        same : (y : ℕ) → ((y ≡ x) × (x < length ps) × (up (skipped ps x) y ≡ up ps (up ps x))) ⊎ (up (skipped ps x) y ≡ up ps y)
            → ρ (up (skipped ps x) y) ≡ ρ y
        same y (inl e) = rw (e.2, e.0) (has.same (up ps x) ∙ has.same x)
        same y (inr e) = rw e (has.same y)

        top : (y : ℕ) → up (skipped ps x) y ≡ y → ((y ≡ x) × (x < length ps) × (up (skipped ps x) y ≡ up ps (up ps x))) ⊎ (up (skipped ps x) y ≡ up ps y)
            → ρ y ≡ y
        top y t (inl e) =
            let q : rank fixed (up ps (up ps x)) ≡ rank fixed x = ap (rank fixed) (sym e.2 ∙ t ∙ e.0) in
            let r : up ps x ≡ x = rank-only (up ps x) x (omega (arith, has.falls x, has.falls (up ps x))) in
            rw e.0 (has.top x r)
        top y t (inr e) = has.top y (sym e ∙ t)

    -- the parent of x once its own is skipped
    skipped-up : (x : ℕ) → x < 40 → up (skipped ps x) x ≡ up ps (up ps x)
    skipped-up x h = get_or-set_same ps x (up ps (up ps x)) x (rw has.sized h)

  -- so many turns of `find`
  abbrev walked : ℕ → ℕ → List ℕ → ℕ → Gives ℕ
  walked k i ps x = whiles k i below (λ i. halved) (record { parents = ps; answer = x })

  walk-has : (k i : ℕ) (ps : List ℕ) (ρ : ℕ → ℕ) (x : ℕ) → Has ps ρ → Has (walked k i ps x).parents ρ
  unfolding whiles halved
  walk-has zero i ps ρ x has = has
  walk-has (suc k) i ps ρ x has =
      go (eqb (up ps x) x) (walk-has k (i + 1) (skipped ps x) ρ (up (skipped ps x) x) (skipped-has ps ρ has x))
    where
      go : (b : Bool) → Has (walked k (i + 1) (skipped ps x) (up (skipped ps x) x)).parents ρ
          → Has (cond (not b) (walked k (i + 1) (skipped ps x) (up (skipped ps x) x)) (record { parents = ps; answer = x })).parents ρ
      go true r = has
      go false r = r

  walk_is : (k i : ℕ) (ps : List ℕ) (ρ : ℕ → ℕ) (x : ℕ) → Has ps ρ → (up ps x ≢ x → rank fixed x < k) → (walked k i ps x).answer ≡ ρ x
  unfolding whiles halved
  walk_is zero i ps ρ x has h = go (ℕ_discrete (up ps x) x)
    where
      go : Dec (up ps x ≡ x) → x ≡ ρ x
      go (yes e) = sym (has.top x e)
      go (no n) = absurd (omega (arith, h n))
  walk_is (suc k) i ps ρ x has h =
      go (eqb (up ps x) x) refl (λ l. walk_is k (i + 1) (skipped ps x) ρ (up (skipped ps x) x) (skipped-has ps ρ has x) l)
    where
      go : (b : Bool) → eqb (up ps x) x ≡ b
          → ((up (skipped ps x) (up (skipped ps x) x) ≢ up (skipped ps x) x → rank fixed (up (skipped ps x) x) < k)
          → (walked k (i + 1) (skipped ps x) (up (skipped ps x) x)).answer ≡ ρ (up (skipped ps x) x))
          → (cond (not b) (walked k (i + 1) (skipped ps x) (up (skipped ps x) x)) (record { parents = ps; answer = x })).answer ≡ ρ x
      go true e r = sym (has.top x (eqb-true (up ps x) x e))
      go false e r =
          let n : up ps x ≢ x = eqb-false (up ps x) x e in
          let q = skipped-up ps ρ has x (moves-inside ps ρ has x n) in
          let l : rank fixed (up (skipped ps x) x) < k = rw q (omega (arith, lower ps ρ has x n, has.falls (up ps x), h n)) in
          r (λ m. l) ∙ (skipped-has ps ρ has x).same x

  module _ (ps : List ℕ) (ρ : ℕ → ℕ) (has : Has ps ρ) where
    pub find-has : (x : ℕ) → Has (find_of ps x).parents ρ
    unfolding find_of while_to
    find-has x = walk-has 80 0 ps ρ x has

    pub find-is : (x : ℕ) → (find_of ps x).answer ≡ ρ x
    unfolding find_of while_to
    find-is x = walk_is 80 0 ps ρ x has (λ n. rank-small x (moves-inside ps ρ has x n))
