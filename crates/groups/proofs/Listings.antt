-- What `list_points` and `list_equations` come to: each tied point has its root's number, each equation its first point's.
-- Assumes nothing.
use Prim.Native.Nat.{ℕ, suc, ◌+◌, ◌≤◌, ◌<◌}
use mathlib.Core.Bool.{Bool, true, false}
use mathlib.Core.List.Memᴰ
use mathlib.Core.List.{List, [], ◌∷◌, Memᴰ}
use mathlib.Core.Logic.{◌≢◌}
use mathlib.Core.Path.{◌≡◌, refl, sym, ap, ◌∙◌, subst}
use native.Mathlib.Decide.{ℕ_discrete, dec_lt}
use native.Mathlib.Nat.{not-suc-le-zero}
use native.Mathlib.Numerals.{add-one}
use native.Mathlib.Omega.{arith}
use borrow.Author.Tests.{eq-eqb, ne_eqb}
use lib.Dec.{T}
use lib.ListN.{length, get_or, set, replicate, length-set, get_or-eq_default, get_or-replicate}
use lib.Seq.{get_or-set_same, get_or-set_other}
use Rattle.groups.specs.Listed.{nothing, numbered_of, entered_of, point_of, list_point, list_points, group_of, list_equation, list_equations}
use Rattle.groups.specs.Parents.{Falls, Gives, root_of}
use Rattle.groups.specs.declared.listing.Listing.{Listing}
use Rattle.groups.proofs.Forest.{rt, rt-low, rt-rt, Kept, kept_refl, kept_trans, root_kept, root_is}
use Rattle.loops.proofs.Keeps.{up_to-keeps}
use Rattle.groups.proofs.Numbers.{leads, Leads, before, lead, lead-tied, lead-not, untied-not, before-zero, before-yes, before-no, before-le}
use Rattle.groups.proofs.Ties.{tied_at}

-- 40 stands in every place of such a list, and past its end
none-at : (p : ℕ) → ◌≡◌ {A = ℕ} (get_or (replicate 40 40) p 40) 40
none-at p = go (dec_lt p 40)
  where
    go : Dec (p < 40) → ◌≡◌ {A = ℕ} (get_or (replicate 40 40) p 40) 40
    go (yes h) = get_or-replicate 40 p 40 40 h
    go (no n) = get_or-eq_default (replicate 40 40) 40 {n = p} (omega arith)

-- a root that has no number gets the next, and its point too
entered-new : (q : ℕ) (s : Listing) → q < length s.index → get_or s.index q 40 ≡ 40
    → entered_of q q s ≡ record { index = set s.index q s.count; of_point = set s.of_point q s.count; count = s.count + 1 }
unfolding entered_of numbered_of
entered-new q s h e = rw (eq-eqb (get_or s.index q 40) 40 e, get_or-set_same s.index q s.count 40 h)

-- a root that has one keeps it
entered-old : (r q v : ℕ) (s : Listing) → get_or s.index r 40 ≡ v → v ≢ 40
    → entered_of r q s ≡ record { index = s.index; of_point = set s.of_point q v; count = s.count }
unfolding entered_of numbered_of
entered-old r q v s e n = rw (e, ne_eqb v 40 n, e)

-- what holds below q and at q holds below q + 1
upto : (P : ℕ → Type 0) (q : ℕ) → ((p : ℕ) → p < q → P p) → P q → (p : ℕ) → p < q + 1 → P p
upto P q f e p h = go (ℕ_discrete p q)
  where
    go : Dec (p ≡ q) → P p
    go (yes i) = subst P (sym i) e
    go (no n) = f p (omega arith)

-- the group of an equation that touches the points pts, by the numbers of the roots
pub group_number : List ℕ → List ℕ → List ℕ → ℕ
group_number ps index [] = 40
group_number ps index (o ∷ pts) = get_or index (rt ps o) 40

pub owner : (ps index pts : List ℕ) (p : ℕ) → Memᴰ p pts → (o : ℕ) × Memᴰ o pts × (group_number ps index pts ≡ get_or index (rt ps o) 40)
unfolding group_number
owner ps index [] p m = absurd (Memᴰ.not-nil m)
owner ps index (o ∷ pts) p m = (o, Memᴰ.head refl, refl)

pub owned : (ps index pts : List ℕ) → group_number ps index pts ≢ 40 → (p : ℕ) × Memᴰ p pts
unfolding group_number
owned ps index [] n = absurd (n refl)
owned ps index (o ∷ pts) n = (o, Memᴰ.head refl)

module _ (tied : List Bool) (ps : List ℕ) where
  -- the listing once the points below q have come
  pub record Listed (q : ℕ) (s : Listing) : Type 0 where
    pub index-sized : length s.index ≡ 40
    pub point-sized : length s.of_point ≡ 40
    pub counted : s.count ≡ before tied ps q
    pub index-old : (r : ℕ) → r < q → Leads tied ps r → get_or s.index r 40 ≡ before tied ps r
    pub index-new : (r : ℕ) → q ≤ r → get_or s.index r 40 ≡ 40
    pub point-old : (p : ℕ) → p < q → tied_at tied p ≡ true → get_or s.of_point p 40 ≡ before tied ps (rt ps p)
    pub point-new : (p : ℕ) → q ≤ p → get_or s.of_point p 40 ≡ 40
    pub point-not : (p : ℕ) → tied_at tied p ≡ false → get_or s.of_point p 40 ≡ 40

  clash : (b : Bool) → b ≡ true → b ≡ false → ⊥
  clash b e h = subst T (sym e ∙ h) tt

  module _ (q : ℕ) (s : Listing) (h : q < 40) (d : Listed q s) where
    listed-skip : tied_at tied q ≡ false → Listed (q + 1) s
    listed-skip e = record {
      index-sized = d.index-sized;
      point-sized = d.point-sized;
      counted = rw add-one (d.counted ∙ sym (before-no tied ps q (untied-not tied ps q e)));
      index-old = upto (λ r. Leads tied ps r → get_or s.index r 40 ≡ before tied ps r) q d.index-old
          (λ l. absurd (clash (tied_at tied q) (lead-tied tied ps q l) e));
      index-new = λ r l. d.index-new r (omega arith);
      point-old = upto (λ p. tied_at tied p ≡ true → get_or s.of_point p 40 ≡ before tied ps (rt ps p)) q d.point-old
          (λ l. absurd (clash (tied_at tied q) l e));
      point-new = λ p l. d.point-new p (omega arith);
      point-not = d.point-not;
    }

    set_new : (l : List ℕ) (v r : ℕ) → q + 1 ≤ r → get_or l r 40 ≡ 40 → get_or (set l q v) r 40 ≡ 40
    set_new l v r i e = get_or-set_other l q r v 40 (omega arith) ∙ e

    set-old : (l : List ℕ) (v w r : ℕ) → r < q → get_or l r 40 ≡ w → get_or (set l q v) r 40 ≡ w
    set-old l v w r i e = get_or-set_other l q r v 40 (omega arith) ∙ e

    set-not : (l : List ℕ) (v p : ℕ) → tied_at tied q ≡ true → tied_at tied p ≡ false → get_or l p 40 ≡ 40 → get_or (set l q v) p 40 ≡ 40
    set-not l v p t u e = get_or-set_other l q p v 40 (λ i. clash (tied_at tied q) t (rw i at u)) ∙ e

    listed-lead : tied_at tied q ≡ true → rt ps q ≡ q
        → Listed (q + 1) (record { index = set s.index q s.count; of_point = set s.of_point q s.count; count = s.count + 1 })
    listed-lead e r = record {
      index-sized = length-set s.index q s.count ∙ d.index-sized;
      point-sized = length-set s.of_point q s.count ∙ d.point-sized;
      counted = rw (add-one, add-one) (ap suc d.counted ∙ sym (before-yes tied ps q (lead tied ps q e r)));
      index-old = upto (λ x. Leads tied ps x → get_or (set s.index q s.count) x 40 ≡ before tied ps x) q
          (λ x i l. set-old s.index s.count (before tied ps x) x i (d.index-old x i l))
          (λ l. get_or-set_same s.index q s.count 40 (rw d.index-sized h) ∙ d.counted);
      index-new = λ x i. set_new s.index s.count x i (d.index-new x (omega arith));
      point-old = upto (λ p. tied_at tied p ≡ true → get_or (set s.of_point q s.count) p 40 ≡ before tied ps (rt ps p)) q
          (λ p i l. set-old s.of_point s.count (before tied ps (rt ps p)) p i (d.point-old p i l))
          (λ l. get_or-set_same s.of_point q s.count 40 (rw d.point-sized h) ∙ d.counted ∙ ap (before tied ps) (sym r));
      point-new = λ p i. set_new s.of_point s.count p i (d.point-new p (omega arith));
      point-not = λ p u. set-not s.of_point s.count p e u (d.point-not p u);
    }

    listed-follow : tied_at tied q ≡ true → rt ps q ≢ q
        → Listed (q + 1) (record { index = s.index; of_point = set s.of_point q (before tied ps (rt ps q)); count = s.count })
    listed-follow e n = record {
      index-sized = d.index-sized;
      point-sized = length-set s.of_point q (before tied ps (rt ps q)) ∙ d.point-sized;
      counted = rw add-one (d.counted ∙ sym (before-no tied ps q (lead-not tied ps q n)));
      index-old = upto (λ x. Leads tied ps x → get_or s.index x 40 ≡ before tied ps x) q d.index-old
          (λ l. absurd (clash (leads tied ps q) l (lead-not tied ps q n)));
      index-new = λ x i. d.index-new x (omega arith);
      point-old = upto (λ p. tied_at tied p ≡ true → get_or (set s.of_point q (before tied ps (rt ps q))) p 40 ≡ before tied ps (rt ps p)) q
          (λ p i l. set-old s.of_point (before tied ps (rt ps q)) (before tied ps (rt ps p)) p i (d.point-old p i l))
          (λ l. get_or-set_same s.of_point q (before tied ps (rt ps q)) 40 (rw d.point-sized h));
      point-new = λ p i. set_new s.of_point (before tied ps (rt ps q)) p i (d.point-new p (omega arith));
      point-not = λ p u. set-not s.of_point (before tied ps (rt ps q)) p e u (d.point-not p u);
    }

  module _ (f : Falls ps) (above : (p : ℕ) → tied_at tied p ≡ true → tied_at tied (rt ps p) ≡ true) where
    pub root-leads : (p : ℕ) → tied_at tied p ≡ true → Leads tied ps (rt ps p)
    root-leads p e = lead tied ps (rt ps p) (above p e) (rt-rt ps f p)

    entered-listed : (q : ℕ) (s : Listing) → q < 40 → Listed q s → tied_at tied q ≡ true → Listed (q + 1) (entered_of (rt ps q) q s)
    entered-listed q s h d e = go (ℕ_discrete (rt ps q) q)
      where
        go : Dec (rt ps q ≡ q) → Listed (q + 1) (entered_of (rt ps q) q s)
        go (yes r) = rw (r, entered-new q s (rw d.index-sized h) (d.index-new q (omega arith))) (listed-lead q s h d e r)
        go (no n) =
            let l : rt ps q < q = omega (arith, rt-low ps f q) in
            rw (entered-old (rt ps q) q (before tied ps (rt ps q)) s (d.index-old (rt ps q) l (root-leads q e)) (omega (arith, before-le tied ps (rt ps q))))
            (listed-follow q s h d e n)

    abbrev Turn : ℕ → Gives Listing → Type 0
    Turn q g = Kept ps g.parents × Listed q g.answer

    turn-next : (q : ℕ) (g : Gives Listing) → q < 40 → Turn q g → Turn (q + 1) (list_point tied q g)
    unfolding list_point point_of
    turn-next q g h d = go (tied_at tied q) refl
      where
        go : (b : Bool) → tied_at tied q ≡ b → Turn (q + 1) (point_of b q g)
        go true e =
            let r = root_is g.parents q d.0.falls ∙ d.0.roots q in (
              kept_trans ps g.parents (root_of g.parents q).parents d.0 (root_kept g.parents q d.0.falls),
              rw r (entered-listed q g.answer h d.1 e),
            )
        go false e = (d.0, listed-skip q g.answer h d.1 e)

    nothing-listed : Listed 0 nothing
    nothing-listed = record {
      index-sized = refl;
      point-sized = refl;
      counted = sym (before-zero tied ps);
      index-old = λ r l. absurd (not-suc-le-zero l);
      index-new = λ r l. none-at r;
      point-old = λ p l. absurd (not-suc-le-zero l);
      point-new = λ p l. none-at p;
      point-not = λ p l. none-at p;
    }

    points-turned : Turn 40 (list_points tied ps)
    unfolding list_points
    points-turned = up_to-keeps Turn (list_point tied) 40 turn-next 0 (record { parents = ps; answer = nothing }) (omega arith) (kept_refl ps f, nothing-listed)

    pub points_kept : Kept ps (list_points tied ps).parents
    points_kept = points-turned.0

    pub points-listed : Listed 40 (list_points tied ps).answer
    points-listed = points-turned.1

module _ (ps index : List ℕ) (t : ℕ → List ℕ) (n : ℕ) (few : n ≤ 40) where
  -- the equations' groups once the first k equations have come
  record Ranged (k : ℕ) (g : Gives (List ℕ)) : Type 0 where
    kept : Kept ps g.parents
    sized : length g.answer ≡ 40
    old : (j : ℕ) → j < k → get_or g.answer j 40 ≡ group_number ps index (t j)
    new : (j : ℕ) → k ≤ j → get_or g.answer j 40 ≡ 40

  group-kept : (pts qs : List ℕ) → Kept ps qs → Kept ps (group_of index pts qs).parents
  unfolding group_of
  group-kept [] qs k = k
  group-kept (o ∷ pts) qs k = kept_trans ps qs (root_of qs o).parents k (root_kept qs o k.falls)

  group-is : (pts qs : List ℕ) → Kept ps qs → (group_of index pts qs).answer ≡ group_number ps index pts
  unfolding group_of group_number
  group-is [] qs k = refl
  group-is (o ∷ pts) qs k = ap (λ r. get_or index r 40) (root_is qs o k.falls ∙ k.roots o)

  ranged-next : (k : ℕ) (g : Gives (List ℕ)) → k < n → Ranged k g → Ranged (k + 1) (list_equation index t k g)
  unfolding list_equation
  ranged-next k g h d =
      let v = (group_of index (t k) g.parents).answer in
      record {
        kept = group-kept (t k) g.parents d.kept;
        sized = length-set g.answer k v ∙ d.sized;
        old = upto (λ j. get_or (set g.answer k v) j 40 ≡ group_number ps index (t j)) k
            (λ j l. get_or-set_other g.answer k j v 40 (omega arith) ∙ d.old j l)
            (get_or-set_same g.answer k v 40 (rw d.sized (omega arith)) ∙ group-is (t k) g.parents d.kept);
        new = λ j l. get_or-set_other g.answer k j v 40 (omega arith) ∙ d.new j (omega arith);
      }

  module _ (qs : List ℕ) (kept : Kept ps qs) where
    ranged : Ranged n (list_equations index t n qs)
    unfolding list_equations
    ranged =
        up_to-keeps Ranged (list_equation index t) n ranged-next 0 (record { parents = qs; answer = replicate 40 40 }) (omega arith)
        (record { kept = kept; sized = refl; old = λ j l. absurd (not-suc-le-zero l); new = λ j l. none-at j })

    pub equation-sized : length (list_equations index t n qs).answer ≡ 40
    equation-sized = ranged.sized

    pub equation-old : (j : ℕ) → j < n → get_or (list_equations index t n qs).answer j 40 ≡ group_number ps index (t j)
    equation-old j l = ranged.old j l

    pub equation-new : (j : ℕ) → n ≤ j → get_or (list_equations index t n qs).answer j 40 ≡ 40
    equation-new j l = ranged.new j l
