-- The groups are exactly the chains, for any n equations that touch points below 40. Assumes nothing.
use Prim.Native.Nat.{ℕ, ◌+◌, ◌-◌, ◌≤◌, ◌<◌}
use mathlib.Core.Bool.{Bool, true, false}
use mathlib.Core.List.{List, Memᴰ}
use mathlib.Core.Path.{◌≡◌, refl, sym, ap, ◌∙◌}
use native.Mathlib.Decide.{dec_lt}
use native.Mathlib.Omega.{arith}
use lib.ListN.{length, get_or}
use Rattle.groups.specs.Chains.{Touches, Tied, points_in, Lowest, GroupsAreChains}
use Rattle.groups.specs.Listed.{list_points, groups_of}
use Rattle.groups.specs.Parents.{alone, joined}
use Rattle.groups.specs.Tied.{tied_of}
use Rattle.groups.specs.declared.Grouping.{Grouping}
use Rattle.groups.proofs.Forest.{rt, rt-low, rt-rt}
use Rattle.groups.proofs.Listings.{Listed, points_kept, points-listed, root-leads, owner, owned, equation-sized, equation-old, equation-new}
use Rattle.groups.proofs.Numbers.{Leads, before, lead-tied, lead-root, before-le, before-mono, before-lt, before-find}
use Rattle.groups.proofs.Places.{rises, place-holds, placed}
use Rattle.groups.proofs.Roots.{Good, good, chain-root, root-chain, root_tied}
use Rattle.groups.proofs.Ties.{tied_at, tied-all, tied-only}

module _ (t : ℕ → List ℕ) (n : ℕ) (few : n ≤ 40) (inside : (k p : ℕ) → Touches t k p → p < 40) (active : (k p : ℕ) → Touches t k p → k < n) where
  -- the parents once all is joined, the tied points, and the groups
  abbrev P : List ℕ
  P = joined t n alone

  abbrev W : List Bool
  W = tied_of t n

  abbrev g : Grouping
  g = groups_of t n

  -- the number of the point p's group
  abbrev number_at : ℕ → ℕ
  number_at p = before W P (rt P p)

  goods : Good t n P
  goods = good t n inside

  yes-tied : (p : ℕ) → Tied t p → tied_at W p ≡ true
  yes-tied p m = tied-all t n inside m.0 p (active m.0 p m.1) m.1

  above : (p : ℕ) → tied_at W p ≡ true → tied_at W (rt P p) ≡ true
  above p e = yes-tied (rt P p) (root_tied t n P goods active p (tied-only t n inside p e))

  listed : Listed W P 40 (list_points W P).answer
  listed = points-listed W P goods.falls above

  below : (p : ℕ) → Tied t p → p < 40
  below p m = inside m.0 p m.1

  leading : (p : ℕ) → Tied t p → Leads W P (rt P p)
  leading p m = root-leads W P goods.falls above p (yes-tied p m)

  count-is : g.count ≡ before W P 40
  unfolding groups_of
  count-is = listed.counted

  points-length : length g.of_point ≡ 40
  unfolding groups_of
  points-length = listed.point-sized

  point-is : (p : ℕ) → Tied t p → get_or g.of_point p 40 ≡ number_at p
  unfolding groups_of
  point-is p m = listed.point-old p (below p m) (yes-tied p m)

  number-less : (p : ℕ) → Tied t p → number_at p < g.count
  number-less p m = rw count-is (before-lt W P (rt P p) 40 (leading p m) (omega (arith, rt-low P goods.falls p, below p m)))

  count_small : g.count ≤ 40
  count_small = omega (arith, count-is, before-le W P 40)

  -- 40 is no group's number
  point_tied : (p j : ℕ) → j < g.count → get_or g.of_point p 40 ≡ j → Tied t p
  unfolding groups_of
  point_tied p j h e = go (tied_at W p) refl
    where
      go : (b : Bool) → tied_at W p ≡ b → Tied t p
      go true q = tied-only t n inside p q
      go false q = absurd (omega (arith, count_small, sym (listed.point-not p q) ∙ e))

  one-root : (p q : ℕ) → Tied t p → Tied t q → number_at p ≡ number_at q → rt P p ≡ rt P q
  one-root p q a b e = go (dec_lt (rt P p) (rt P q)) (dec_lt (rt P q) (rt P p))
    where
      go : Dec (rt P p < rt P q) → Dec (rt P q < rt P p) → rt P p ≡ rt P q
      go (yes h) d = absurd (omega (arith, before-lt W P (rt P p) (rt P q) (leading p a) h))
      go (no m) (yes h) = absurd (omega (arith, before-lt W P (rt P q) (rt P p) (leading q b) h))
      go (no m) (no k) = omega arith

  -- a point's root is listed with it, and has no lower number
  root-place : (p j : ℕ) → Tied t p → get_or g.of_point p 40 ≡ j → Memᴰ (rt P p) (points_in g j)
  root-place p j m e =
      let r = root_tied t n P goods active p m in
      placed g.of_point j (rt P p) (rw points-length (below (rt P p) r))
      (point-is (rt P p) r ∙ ap (before W P) (rt-rt P goods.falls p) ∙ sym (point-is p m) ∙ e)

  -- the group of an equation
  index : List ℕ
  index = (list_points W P).answer.index

  equations-length : length g.of_equation ≡ 40
  unfolding groups_of index
  equations-length = equation-sized P index t n few (list_points W P).parents (points_kept W P goods.falls above)

  equation-is : (k p : ℕ) → Touches t k p → get_or g.of_equation k 40 ≡ number_at p
  unfolding groups_of index
  equation-is k p m =
      let o = owner P index (t k) p m in
      let a : Tied t o.0 = (k, o.1) in
      equation-old P index t n few (list_points W P).parents (points_kept W P goods.falls above) k (active k p m)
      ∙ o.2
      ∙ listed.index-old (rt P o.0) (omega (arith, rt-low P goods.falls o.0, below o.0 a)) (leading o.0 a)
      ∙ ap (before W P) (goods.whole k o.0 p (active k p m) o.1 m)

  equation-tied : (k j : ℕ) → j < g.count → get_or g.of_equation k 40 ≡ j → (p : ℕ) × Touches t k p
  unfolding groups_of index
  equation-tied k j h e = go (dec_lt k n)
    where
      go : Dec (k < n) → (p : ℕ) × Touches t k p
      go (yes l) =
          owned P index (t k)
          (λ z. omega (
            arith,
            count_small,
            sym e ∙ equation-old P index t n few (list_points W P).parents (points_kept W P goods.falls above) k l ∙ z,
          ))
      go (no l) =
          absurd (omega (
            arith,
            count_small,
            sym e ∙ equation-new P index t n few (list_points W P).parents (points_kept W P goods.falls above) k (omega arith),
          ))

  lowest : (j : ℕ) → j < g.count → (p : ℕ) × Lowest g j p
  lowest j h =
      let f = before-find W P 40 j (rw count-is at h) in
      let r = f.0 in
      let m : Tied t r = tied-only t n inside r (lead-tied W P r f.2) in
      let e : rt P r ≡ r = lead-root W P r f.2 in (
        r,
        (
          placed g.of_point j r (rw points-length f.1) (point-is r m ∙ ap (before W P) e ∙ f.3),
          λ q w.
              let b : Tied t q = point_tied q j h (place-holds g.of_point j q w) in
              let s : rt P r ≡ rt P q = one-root r q m b (ap (before W P) e ∙ f.3 ∙ sym (place-holds g.of_point j q w) ∙ point-is q b) in
              omega (arith, rt-low P goods.falls q),
        ),
      )

  -- the lowest point of a group is its root
  lowest-root : (j p : ℕ) → j < g.count → Lowest g j p → rt P p ≡ p
  lowest-root j p h l =
      let e = place-holds g.of_point j p l.0 in
      omega (arith, rt-low P goods.falls p, l.1 (rt P p) (root-place p j (point_tied p j h e) e))

  lowest-number : (j p : ℕ) → j < g.count → Lowest g j p → before W P p ≡ j
  lowest-number j p h l =
      let e = place-holds g.of_point j p l.0 in
      sym (ap (before W P) (lowest-root j p h l)) ∙ sym (point-is p (point_tied p j h e)) ∙ e

  ordered : (i j p q : ℕ) → i < j → j < g.count → Lowest g i p → Lowest g j q → p < q
  ordered i j p q l h a b = go (dec_lt p q)
    where
      go : Dec (p < q) → p < q
      go (yes r) = r
      go (no r) =
          let e : q + (p - q) ≡ p = omega arith in
          let s : before W P q ≤ before W P p = rw e at (before-mono W P q (p - q)) in
          absurd (omega (arith, lowest-number i p (omega arith) a, lowest-number j q h b))

  pub chains : GroupsAreChains t (groups_of t n)
  chains = record {
    together = λ p q a b. (
      λ w. root-chain t n P goods active a.0 p q a.1 (one-root p q a b (
          sym (point-is p a) ∙ place-holds g.of_point w.0 p w.2 ∙ sym (place-holds g.of_point w.0 q w.3) ∙ point-is q b
          )),
      λ c. (
        number_at p,
        number-less p a,
        placed g.of_point (number_at p) p (rw points-length (below p a)) (point-is p a),
        placed g.of_point (number_at p) q (rw points-length (below q b)) (point-is q b ∙ ap (before W P) (sym (chain-root t n P goods active c.1))),
      ),
    );
    point-listed = λ p a. (number_at p, number-less p a, placed g.of_point (number_at p) p (rw points-length (below p a)) (point-is p a));
    point-once = λ p i j a b. sym (place-holds g.of_point i p a) ∙ place-holds g.of_point j p b;
    point-only = λ p j h m. point_tied p j h (place-holds g.of_point j p m);
    equation-listed = λ k p j m a. placed g.of_equation j k (rw equations-length (omega (arith, active k p m)))
        (equation-is k p m ∙ sym (point-is p (k, m)) ∙ place-holds g.of_point j p a);
    equation-once = λ k i j a b. sym (place-holds g.of_equation i k a) ∙ place-holds g.of_equation j k b;
    equation-only = λ k j h m. equation-tied k j h (place-holds g.of_equation j k m);
    points-rise = λ j. rises 0 g.of_point j;
    equations-rise = λ j. rises 0 g.of_equation j;
    lowest = lowest;
    ordered = ordered;
  }
