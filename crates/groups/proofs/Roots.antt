-- The roots once the points of every equation are joined: two touched points have one root exactly when a chain joins them.
-- Assumes nothing.
use Prim.Native.Nat.{ℕ, ◌+◌, ◌<◌, max, min}
use mathlib.Core.Bool.{Bool, true, false, cond}
use mathlib.Core.List.Memᴰ
use mathlib.Core.List.{List, [], ◌∷◌, Memᴰ}
use mathlib.Core.Logic.{◌⊎◌, inl, inr}
use mathlib.Core.Path.{◌≡◌, refl, sym, ◌∙◌}
use native.Mathlib.Decide.{ℕ_discrete, dec_lt}
use native.Mathlib.Nat.{not-suc-le-zero, max-eq_left, max-eq_right, min-eq_left, min-eq_right}
use native.Mathlib.Omega.{arith}
use borrow.Author.Tests.{eqb-true}
use lib.Dec.{eqb}
use lib.ListN.{length}
use Rattle.loops.specs.Turns.{fold}
use Rattle.groups.specs.Chains.{Touches, Tied, Chain, last, next, Chained}
use Rattle.groups.specs.Parents.{Falls, join_to, join_all, joined, alone}
use Rattle.groups.proofs.Forest.{rt, rt-at, merged, merged-at, merged-low, join-falls, join-sized, join-roots, alone-own, alone-falls}
use Rattle.loops.proofs.Keeps.{up_to-keeps}
use Rattle.groups.proofs.Links.{Linked, linked-back, linked_on}

-- the larger of two roots under the smaller: both have one root then
merged-both : (x y : ℕ) → merged (max x y) (min x y) x ≡ merged (max x y) (min x y) y
merged-both x y = go (dec_lt x y)
  where
    go : Dec (x < y) → merged (max x y) (min x y) x ≡ merged (max x y) (min x y) y
    go (yes h) = rw (max-eq_right {n = x} {m = y} (omega arith), min-eq_left {n = x} {m = y} (omega arith)) (merged-low y x ∙ sym (merged-at y x))
    go (no n) = rw (max-eq_left {n = x} {m = y} (omega arith), min-eq_right {n = y} {m = x} (omega arith)) (merged-at x y ∙ sym (merged-low x y))

module _ (t : ℕ → List ℕ) where
  merged-linked : (a b y r : ℕ) → Linked t y r → Linked t a b → Linked t y (merged a b r)
  unfolding merged
  merged-linked a b y r l m = go (eqb r a) refl
    where
      go : (c : Bool) → eqb r a ≡ c → Linked t y (cond c b r)
      go true e = linked_on l (linked_on (inl (eqb-true r a e)) m)
      go false e = l

  ends-linked : (x y : ℕ) → Linked t x y → Linked t (max x y) (min x y)
  ends-linked x y l = go (dec_lt x y)
    where
      go : Dec (x < y) → Linked t (max x y) (min x y)
      go (yes h) = rw (max-eq_right {n = x} {m = y} (omega arith), min-eq_left {n = x} {m = y} (omega arith)) (linked-back l)
      go (no n) = rw (max-eq_left {n = x} {m = y} (omega arith), min-eq_right {n = y} {m = x} (omega arith)) l

  -- what joins do to the roots: what had one root still has, and a root stays linked to its points
  record Grown (ps ps' : List ℕ) : Type 0 where
    falls : Falls ps'
    sized : length ps' ≡ length ps
    finer : (p q : ℕ) → rt ps p ≡ rt ps q → rt ps' p ≡ rt ps' q
    sound : ((y : ℕ) → Linked t y (rt ps y)) → (y : ℕ) → Linked t y (rt ps' y)

  grown-refl : (ps : List ℕ) → Falls ps → Grown ps ps
  grown-refl ps f = record { falls = f; sized = refl; finer = λ p q e. e; sound = λ s. s }

  grown-trans : (ps qs rs : List ℕ) → Grown ps qs → Grown qs rs → Grown ps rs
  grown-trans ps qs rs a b = record {
    falls = b.falls;
    sized = b.sized ∙ a.sized;
    finer = λ p q e. b.finer p q (a.finer p q e);
    sound = λ s. b.sound (a.sound s);
  }

  module _ (ps : List ℕ) (f : Falls ps) (a q : ℕ) (i : a < length ps) (j : q < length ps) where
    join-grown : Linked t a q → Grown ps (join_to a ps q)
    join-grown l = record {
      falls = join-falls a ps q f;
      sized = join-sized a ps q f;
      finer = λ x y e. rw (join-roots a ps q f i j x, join-roots a ps q f i j y, e);
      sound = λ s y. rw (join-roots a ps q f i j y) (
          merged-linked _ _ y (rt ps y) (s y) (ends-linked (rt ps a) (rt ps q) (linked_on (linked-back (s a)) (linked_on l (s q))))
          );
    }

    join-same : rt (join_to a ps q) a ≡ rt (join_to a ps q) q
    join-same = rw (join-roots a ps q f i j a, join-roots a ps q f i j q) (merged-both (rt ps a) (rt ps q))

  -- the points qs join a
  fold-grown : (qs ps : List ℕ) (a : ℕ) → Falls ps → a < length ps → ((q : ℕ) → Memᴰ q qs → (q < length ps) × Linked t a q)
      → Grown ps (fold (join_to a) ps qs) × ((q : ℕ) → Memᴰ q qs → rt (fold (join_to a) ps qs) a ≡ rt (fold (join_to a) ps qs) q)
  fold-grown [] ps a f i h = (grown-refl ps f, λ q m. absurd (Memᴰ.not-nil m))
  fold-grown (q ∷ qs) ps a f i h =
      let hq = h q (Memᴰ.head refl) in
      let g = join-grown ps f a q i hq.0 hq.1 in
      let r = fold-grown qs (join_to a ps q) a g.falls (rw g.sized i) (λ x m. (rw g.sized (h x (Memᴰ.tail m)).0, (h x (Memᴰ.tail m)).1)) in (
        grown-trans ps (join_to a ps q) (fold (join_to a) (join_to a ps q) qs) g r.0,
        λ x m. go (r.0.finer a q (join-same ps f a q i hq.0)) r.1 x (Memᴰ.cases_cons m),
      )
    where
      go : rt (fold (join_to a) (join_to a ps q) qs) a ≡ rt (fold (join_to a) (join_to a ps q) qs) q
          → ((x : ℕ) → Memᴰ x qs → rt (fold (join_to a) (join_to a ps q) qs) a ≡ rt (fold (join_to a) (join_to a ps q) qs) x)
          → (x : ℕ) → (x ≡ q) ⊎ Memᴰ x qs → rt (fold (join_to a) (join_to a ps q) qs) a ≡ rt (fold (join_to a) (join_to a ps q) qs) x
      go e r x (inl h) = rw h e
      go e r x (inr m) = r x m

  -- the points of one equation
  all_grown : (pts ps : List ℕ) → Falls ps → ((q : ℕ) → Memᴰ q pts → q < length ps)
      → ((p q : ℕ) → Memᴰ p pts → Memᴰ q pts → Linked t p q)
      → Grown ps (join_all pts ps) × ((p q : ℕ) → Memᴰ p pts → Memᴰ q pts → rt (join_all pts ps) p ≡ rt (join_all pts ps) q)
  unfolding join_all
  all_grown [] ps f h l = (grown-refl ps f, λ p q m. absurd (Memᴰ.not-nil m))
  all_grown (a ∷ qs) ps f h l =
      let r = fold-grown qs ps a f (h a (Memᴰ.head refl)) (λ q m. (h q (Memᴰ.tail m), l a q (Memᴰ.head refl) (Memᴰ.tail m))) in
      (r.0, λ p q m n. sym (go r.1 p (Memᴰ.cases_cons m)) ∙ go r.1 q (Memᴰ.cases_cons n))
    where
      go : ((q : ℕ) → Memᴰ q qs → rt (fold (join_to a) ps qs) a ≡ rt (fold (join_to a) ps qs) q)
          → (x : ℕ) → (x ≡ a) ⊎ Memᴰ x qs → rt (fold (join_to a) ps qs) a ≡ rt (fold (join_to a) ps qs) x
      go r x (inl e) = rw e
      go r x (inr m) = r x m

  -- the parents once the points of the first k equations are joined
  pub record Good (k : ℕ) (ps : List ℕ) : Type 0 where
    pub falls : Falls ps
    pub sized : length ps ≡ 40
    pub sound : (y : ℕ) → Linked t y (rt ps y)
    pub whole : (j p q : ℕ) → j < k → Touches t j p → Touches t j q → rt ps p ≡ rt ps q

  module _ (n : ℕ) (inside : (k p : ℕ) → Touches t k p → p < 40) where
    good-next : (k : ℕ) (ps : List ℕ) → k < n → Good k ps → Good (k + 1) (join_all (t k) ps)
    good-next k ps h g =
        let r = all_grown (t k) ps g.falls (λ q m. rw g.sized (inside k q m)) (λ p q a b. inr (k ∷ [], last a b)) in
        record {
          falls = r.0.falls;
          sized = r.0.sized ∙ g.sized;
          sound = r.0.sound g.sound;
          whole = λ j p q l a b. go r.0 r.1 j p q l (ℕ_discrete j k) a b;
        }
      where
        go : Grown ps (join_all (t k) ps) → ((p q : ℕ) → Touches t k p → Touches t k q → rt (join_all (t k) ps) p ≡ rt (join_all (t k) ps) q)
            → (j p q : ℕ) → j < k + 1 → Dec (j ≡ k) → Touches t j p → Touches t j q → rt (join_all (t k) ps) p ≡ rt (join_all (t k) ps) q
        go d r j p q l (yes e) a b = r p q (rw e at a) (rw e at b)
        go d r j p q l (no i) a b = d.finer p q (g.whole j p q (omega arith) a b)

    pub good : Good n (joined t n alone)
    unfolding joined
    good =
        up_to-keeps Good (λ k. join_all (t k)) n good-next 0 alone (omega arith)
        (record {
          falls = alone-falls;
          sized = alone-own.0;
          sound = λ y. inl (sym (rt-at alone alone-falls y (alone-own.1 y)));
          whole = λ j p q l. absurd (not-suc-le-zero l);
        })

  -- the last equation of a chain touches its end
  pub chain-end : {ks : List ℕ} {p q : ℕ} → Chain t ks p q → Tied t q
  chain-end (last {k} a b) = (k, b)
  chain-end (next a b c) = chain-end c

  module _ (n : ℕ) (ps : List ℕ) (g : Good n ps) (active : (k p : ℕ) → Touches t k p → k < n) where
    pub chain-root : {ks : List ℕ} {p q : ℕ} → Chain t ks p q → rt ps p ≡ rt ps q
    chain-root (last {k} {p} {q} a b) = g.whole k p q (active k p a) a b
    chain-root (next {k} {p} {r} a b c) = g.whole k p r (active k p a) a b ∙ chain-root c

    pub root-chain : (k p q : ℕ) → Touches t k p → rt ps p ≡ rt ps q → Chained t p q
    root-chain k p q m e = go (linked_on (g.sound p) (linked_on (inl e) (linked-back (g.sound q))))
      where
        go : Linked t p q → Chained t p q
        go (inl h) = (k ∷ [], last m (rw h at m))
        go (inr c) = c

    -- the root of a touched point is touched
    pub root_tied : (p : ℕ) → Tied t p → Tied t (rt ps p)
    root_tied p m = go (g.sound p)
      where
        go : Linked t p (rt ps p) → Tied t (rt ps p)
        go (inl h) = (m.0, rw h at m.1)
        go (inr c) = chain-end c.1
