-- The roots at the start, and after a join: each point's root is what it was, or one of the joined runs' roots has become the
-- other's. Assumes nothing.
use Prim.Native.Nat.{ℕ, ◌≤◌, ◌<◌}
use mathlib.Core.Bool.{Bool, true, false, cond}
use mathlib.Core.List.{List}
use mathlib.Core.Logic.{◌⊎◌, inl, inr, ◌≢◌}
use mathlib.Core.Path.{◌≡◌, refl, sym, ap, ◌∙◌, subst}
use native.Mathlib.Decide.{ℕ_discrete, dec_lt}
use native.Mathlib.Omega.{arith}
use borrow.Author.Tests.{ltb-true, ltb-false, eq-eqb, ne_eqb}
use lib.Dec.{T, eqb}
use lib.ListN.{length, set, length-set}
use lib.Seq.{get_or-set_same, get_or-set_other, set_out}
use Rattle.level.specs.Parents.{up, find_of, greater, a_wins, join_to, alone}
use Rattle.level.proofs.Forest.{fixed_at, ranked, rank, inside, stored, rank-small, rank-inside, Has, rooted, find-has, find-is}
use Rattle.groups.proofs.Forest.{alone-own}

module _ (fixed : List Bool) (few : length fixed ≤ 40) where
  pub alone-has : Has fixed few alone (λ x. x)
  alone-has = record {
    sized = alone-own.0;
    falls = λ x. rw (alone-own.1 x) (omega arith);
    same = alone-own.1;
    top = λ x e. refl;
  }

  -- who wins is ahead of who does not, and who does not is behind
  ahead : (b c : Bool) (x y : ℕ) → (b ≡ true → x < 40) → greater b y c x ≡ true → ranked b x ≤ ranked c y
  ahead true true x y i h = omega (arith, ltb-true x y h)
  ahead true false x y i h = omega (arith, i refl)
  ahead false true x y i h = absurd (subst T (sym h) tt)
  ahead false false x y i h = omega (arith, ltb-true x y h)

  behind : (b c : Bool) (x y : ℕ) → (c ≡ true → y < 40) → greater b y c x ≡ false → ranked c y ≤ ranked b x
  behind true true x y i h = omega (arith, ltb-false x y h)
  behind true false x y i h = absurd (subst T h tt)
  behind false true x y i h = omega (arith, i refl)
  behind false false x y i h = omega (arith, ltb-false x y h)

  -- what the roots ρ become where the runs of a and b are joined
  pub record Joined (ρ : ℕ → ℕ) (a b : ℕ) (ps : List ℕ) : Type 0 where
    pub roots : ℕ → ℕ
    pub has : Has fixed few ps roots
    pub coarser : (x y : ℕ) → ρ x ≡ ρ y → roots x ≡ roots y
    pub met : a < 40 → b < 40 → roots a ≡ roots b
    pub moved : (x : ℕ) → (roots x ≡ ρ x) ⊎ (((ρ x ≡ ρ a) × (roots x ≡ ρ b)) ⊎ ((ρ x ≡ ρ b) × (roots x ≡ ρ a)))

  turned : (ρ : ℕ → ℕ) (a b : ℕ) (ps : List ℕ) → Joined ρ a b ps → Joined ρ b a ps
  turned ρ a b ps j = record {
    roots = j.roots;
    has = j.has;
    coarser = j.coarser;
    met = λ h k. sym (j.met k h);
    moved = λ x. go x (j.moved x);
  }
    where
      go : (x : ℕ) → (j.roots x ≡ ρ x) ⊎ (((ρ x ≡ ρ a) × (j.roots x ≡ ρ b)) ⊎ ((ρ x ≡ ρ b) × (j.roots x ≡ ρ a)))
          → (j.roots x ≡ ρ x) ⊎ (((ρ x ≡ ρ b) × (j.roots x ≡ ρ a)) ⊎ ((ρ x ≡ ρ a) × (j.roots x ≡ ρ b)))
      go x (inl e) = inl e
      go x (inr (inl e)) = inr (inr e)
      go x (inr (inr e)) = inr (inl e)

  module _ (ps : List ℕ) (ρ : ℕ → ℕ) (has : Has fixed few ps ρ) where
    -- the root c goes under the root r, which is no higher
    module _ (c r : ℕ) (i : c < 40) (tc : up ps c ≡ c) (tr : up ps r ≡ r) (h : rank fixed r ≤ rank fixed c) where
      abbrev merged : ℕ → ℕ
      merged x = cond (eqb (ρ x) c) r (ρ x)

      at : (x : ℕ) → ρ x ≡ c → merged x ≡ r
      at x e = rw (eq-eqb (ρ x) c e)

      other : (x : ℕ) → ρ x ≢ c → merged x ≡ ρ x
      other x n = rw (ne_eqb (ρ x) c n)

      winner : (x : ℕ) → ρ x ≡ r → merged x ≡ r
      winner x q = go (ℕ_discrete (ρ x) c)
        where
          go : Dec (ρ x ≡ c) → merged x ≡ r
          go (yes e) = at x e
          go (no n) = other x n ∙ q

      under : Has fixed few (set ps c r) merged
      under = record {
        sized = length-set ps c r ∙ has.sized;
        falls = λ y. falls y (stored ps c r y);
        same = λ y. same y (stored ps c r y);
        top = λ y t. top y t (ℕ_discrete y c);
      }
        where
          falls : (y : ℕ) → ((y ≡ c) × (c < length ps) × (up (set ps c r) y ≡ r)) ⊎ (up (set ps c r) y ≡ up ps y) → rank fixed (up (set ps c r) y) ≤ rank fixed y
          falls y (inl e) = rw (e.2, e.0) h
          falls y (inr e) = rw e (has.falls y)

          same : (y : ℕ) → ((y ≡ c) × (c < length ps) × (up (set ps c r) y ≡ r)) ⊎ (up (set ps c r) y ≡ up ps y) → merged (up (set ps c r) y) ≡ merged y
          same y (inl e) = rw (e.2, e.0) (winner r (has.top r tr) ∙ sym (at c (has.top c tc)))
          same y (inr e) = rw (e, has.same y)

          top : (y : ℕ) → up (set ps c r) y ≡ y → Dec (y ≡ c) → merged y ≡ y
          top y t (yes e) =
              let q : r ≡ c = sym (get_or-set_same ps c r c (rw has.sized i)) ∙ rw e at t in
              ap merged e ∙ at c (has.top c tc) ∙ q ∙ sym e
          top y t (no n) =
              let e : ρ y ≡ y = has.top y (sym (get_or-set_other ps c y r y n) ∙ t) in
              other y (λ q. n (sym e ∙ q)) ∙ e

    root-inside : (x : ℕ) → x < 40 → ρ x < 40
    root-inside x h = rank-inside fixed few (ρ x) (omega (arith, (rooted fixed few ps ρ has x).1, rank-small fixed few x h))

    -- a's root goes under b's; past the parents there is nothing to store
    placed : (a b : ℕ) → rank fixed (ρ b) ≤ rank fixed (ρ a) → Joined ρ a b (set ps (ρ a) (ρ b))
    placed a b h = go (dec_lt (ρ a) 40)
      where
        go : Dec (ρ a < 40) → Joined ρ a b (set ps (ρ a) (ρ b))
        go (yes i) =
            let ta = (rooted fixed few ps ρ has a).0 in
            let tb = (rooted fixed few ps ρ has b).0 in
            record {
              roots = merged (ρ a) (ρ b) i ta tb h;
              has = under (ρ a) (ρ b) i ta tb h;
              coarser = λ x y e. ap (λ z. cond (eqb z (ρ a)) (ρ b) z) e;
              met = λ j k. at (ρ a) (ρ b) i ta tb h a refl ∙ sym (winner (ρ a) (ρ b) i ta tb h b refl);
              moved = λ x. move x (ℕ_discrete (ρ x) (ρ a));
            }
          where
            move : (x : ℕ) → Dec (ρ x ≡ ρ a)
                → (cond (eqb (ρ x) (ρ a)) (ρ b) (ρ x) ≡ ρ x)
                ⊎ (((ρ x ≡ ρ a) × (cond (eqb (ρ x) (ρ a)) (ρ b) (ρ x) ≡ ρ b)) ⊎ ((ρ x ≡ ρ b) × (cond (eqb (ρ x) (ρ a)) (ρ b) (ρ x) ≡ ρ a)))
            move x (yes e) = inr (inl (e, rw (eq-eqb (ρ x) (ρ a) e)))
            move x (no n) = inl (rw (ne_eqb (ρ x) (ρ a) n))
        go (no n) = record {
          roots = ρ;
          has = rw (set_out ps (ρ a) (ρ b) (rw has.sized (omega arith))) has;
          coarser = λ x y e. e;
          met = λ j k. absurd (n (root-inside a j));
          moved = λ x. inl refl;
        }

  pub join-roots : (a b : ℕ) (ps : List ℕ) (ρ : ℕ → ℕ) → Has fixed few ps ρ → Joined ρ a b (join_to fixed a b ps)
  unfolding join_to a_wins
  join-roots a b ps ρ has =
      let first = find-has fixed few ps ρ has a in
      let both = find-has fixed few (find_of ps a).parents ρ first b in
      rw (find-is fixed few ps ρ has a, find-is fixed few (find_of ps a).parents ρ first b)
      (go both (a_wins fixed (ρ a) (ρ b)) refl)
    where
      go : Has fixed few (find_of (find_of ps a).parents b).parents ρ → (w : Bool) → a_wins fixed (ρ a) (ρ b) ≡ w
          → Joined ρ a b
          (cond w (set (find_of (find_of ps a).parents b).parents (ρ b) (ρ a)) (set (find_of (find_of ps a).parents b).parents (ρ a) (ρ b)))
      go h true e =
          turned ρ b a _
          (placed _ ρ h b a (ahead (fixed_at fixed (ρ a)) (fixed_at fixed (ρ b)) (ρ a) (ρ b) (inside fixed few (ρ a)) e))
      go h false e = placed _ ρ h a b (behind (fixed_at fixed (ρ a)) (fixed_at fixed (ρ b)) (ρ a) (ρ b) (inside fixed few (ρ b)) e)
