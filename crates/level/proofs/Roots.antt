-- Every walk of `find` ends at a root, and the root that it ends at is the run's. Assumes nothing.
use Prim.Native.Nat.{ℕ, ◌≤◌, ◌<◌}
use mathlib.Core.Bool.{Bool, true, false}
use mathlib.Core.List.Memᴰ
use mathlib.Core.List.{List, [], ◌∷◌, Memᴰ}
use mathlib.Core.Logic.{◌⊎◌, inl, inr}
use mathlib.Core.Path.{◌≡◌, refl, sym, ap, ◌∙◌, subst}
use native.Mathlib.Omega.{arith}
use lib.ListN.{length}
use Rattle.loops.specs.Turns.{fold}
use Rattle.sketch.specs.declared.Active.{Active}
use Rattle.level.specs.Level.{Asks, levels, nothing, asks_of, join_asked, join_equation, joined}
use Rattle.level.specs.Parents.{up, find_of, alone}
use Rattle.level.specs.Runs as runs
use Rattle.level.specs.Runs.{Reached, Tied, Run, here, on, back, Ahead, Root}
use Rattle.level.proofs.Forest.{fixed_at, ranked, inside, Has, rooted, find-has, find-is}
use Rattle.level.proofs.Joins.{alone-has, join-roots}

-- the parents ps have roots
abbrev Forest : (fixed : List Bool) → length fixed ≤ 40 → List ℕ → Type 0
Forest fixed few ps = (ρ : ℕ → ℕ) × Has fixed few ps ρ

module _ (fixed : List Bool) (few : length fixed ≤ 40) where
  reached : {ps : List ℕ} → Reached fixed ps → Forest fixed few ps
  reached runs.start = (λ x. x, alone-has fixed few)
  reached (runs.found {ps = ps} x r) = let f = reached r in (f.0, find-has fixed few ps f.0 f.1 x)
  reached (runs.joined {ps = ps} a b r) =
      let f = reached r in
      let j = join-roots fixed few a b ps f.0 f.1 in
      (j.roots, j.has)

  -- 80 turns are enough: where a walk stops, it has come to a root
  pub walk_ends : (ps : List ℕ) → Reached fixed ps → (x : ℕ) → up (find_of ps x).parents (find_of ps x).answer ≡ (find_of ps x).answer
  walk_ends ps r x =
      let f = reached r in
      rw (find-is fixed few ps f.0 f.1 x)
      (rooted fixed few (find_of ps x).parents f.0 (find-has fixed few ps f.0 f.1 x) x).0

module _ (axis : ℕ) (es : List Active) where
  run-trans : {p r q : ℕ} → Run axis es p r → Run axis es r q → Run axis es p q
  run-trans here s = s
  run-trans (on t r) s = on t (run-trans r s)
  run-trans (back t r) s = back t (run-trans r s)

  run-sym : {p q : ℕ} → Run axis es p q → Run axis es q p
  run-sym here = here
  run-sym (on t r) = run-trans (run-sym r) (back t here)
  run-sym (back t r) = run-trans (run-sym r) (on t here)

-- the roots of the parents that the equations es leave, whose points are among the 40
module _ (fixed : List Bool) (few : length fixed ≤ 40) (axis : ℕ) (es : List Active)
    (small : (a b : ℕ) → Tied axis es a b → (a < 40) × (b < 40)) where
  -- what the roots ρ become where the equations l have been gone through
  record Told (ρ : ℕ → ℕ) (l : List Active) (ps : List ℕ) : Type 0 where
    roots : ℕ → ℕ
    has : Has fixed few ps roots
    linked : (p : ℕ) → Run axis es p (roots p)
    coarser : (x y : ℕ) → ρ x ≡ ρ y → roots x ≡ roots y
    met : (a b : ℕ) → Tied axis l a b → roots a ≡ roots b

  module _ (ps : List ℕ) (ρ : ℕ → ℕ) (has : Has fixed few ps ρ) (linked : (p : ℕ) → Run axis es p (ρ p)) where
    -- by a and b, which the equation ties, a point's run goes on to the other's root
    crossed : (a b p : ℕ) → Run axis es a b → ρ p ≡ ρ a → Run axis es p (ρ b)
    crossed a b p t e =
        run-trans axis es (subst (Run axis es p) e (linked p))
        (run-trans axis es (run-sym axis es (linked a)) (run-trans axis es t (linked b)))

    one : (e : Active) → Memᴰ e es → Told ρ (e ∷ []) (join_equation axis fixed ps e)
    unfolding join_equation
    one e m = go (asks_of axis e.equation) refl
      where
        same : (q : Asks) → asks_of axis e.equation ≡ q → (a b : ℕ) → Tied axis (e ∷ []) a b → q ≡ levels a b
        same q h a b t =
            sym h ∙ ap (λ f. asks_of axis f.equation) (sym (Memᴰ.eq_of_singleton t.1)) ∙ t.2

        go : (q : Asks) → asks_of axis e.equation ≡ q → Told ρ (e ∷ []) (join_asked fixed ps q)
        go (levels a b) h =
            let tie : Tied axis es a b = (e, m, h) in
            let j = join-roots fixed few a b ps ρ has in
            record {
              roots = j.roots;
              has = j.has;
              linked = λ p. follow p tie (j.roots p) (j.moved p);
              coarser = j.coarser;
              met = λ c d t. meets c d j.roots (j.met (small a b tie).0 (small a b tie).1) (same (levels a b) h c d t);
            }
          where
            follow : (p : ℕ) → Tied axis es a b → (r : ℕ) → (r ≡ ρ p) ⊎ (((ρ p ≡ ρ a) × (r ≡ ρ b)) ⊎ ((ρ p ≡ ρ b) × (r ≡ ρ a))) → Run axis es p r
            follow p tie r (inl i) = rw i (linked p)
            follow p tie r (inr (inl i)) = rw i.1 (crossed a b p (on tie here) i.0)
            follow p tie r (inr (inr i)) = rw i.1 (crossed b a p (back tie here) i.0)

            meets : (c d : ℕ) (σ : ℕ → ℕ) → σ a ≡ σ b → levels a b ≡ levels c d → σ c ≡ σ d
            meets c d σ i q = cc
        go nothing h = record {
          roots = ρ;
          has = has;
          linked = linked;
          coarser = λ x y i. i;
          met = λ a b t. never a b (same nothing h a b t);
        }
          where
            never : (a b : ℕ) → nothing ≡ levels a b → ρ a ≡ ρ b
            never a b q = cc

  told : (l : List Active) → ((e : Active) → Memᴰ e l → Memᴰ e es) → (ps : List ℕ) (ρ : ℕ → ℕ) → Has fixed few ps ρ
      → ((p : ℕ) → Run axis es p (ρ p)) → Told ρ l (fold (join_equation axis fixed) ps l)
  told [] within ps ρ has linked = record {
    roots = ρ;
    has = has;
    linked = linked;
    coarser = λ x y i. i;
    met = λ a b t. absurd (Memᴰ.not-nil t.1);
  }
  told (e ∷ l) within ps ρ has linked =
      let s = one ps ρ has linked e (within e (Memᴰ.head refl)) in
      let t = told l (λ f m. within f (Memᴰ.tail m)) (join_equation axis fixed ps e) s.roots s.has s.linked in
      record {
        roots = t.roots;
        has = t.has;
        linked = t.linked;
        coarser = λ x y i. t.coarser x y (s.coarser x y i);
        met = λ a b q. meet a b q s.roots t.roots (s.met a b) (t.met a b) (t.coarser a b) (Memᴰ.cases_cons q.1);
      }
    where
      meet : (a b : ℕ) (q : Tied axis (e ∷ l) a b) (σ τ : ℕ → ℕ) → (Tied axis (e ∷ []) a b → σ a ≡ σ b) → (Tied axis l a b → τ a ≡ τ b)
          → (σ a ≡ σ b → τ a ≡ τ b) → (q.0 ≡ e) ⊎ Memᴰ q.0 l → τ a ≡ τ b
      meet a b q σ τ f g h (inl i) = h (f (q.0, Memᴰ.head i, q.2))
      meet a b q σ τ f g h (inr m) = g (q.0, m, q.2)

  -- the whole sweep
  swept : Told (λ x. x) es (joined axis fixed es alone)
  unfolding joined
  swept = told es (λ e m. m) alone (λ x. x) (alone-has fixed few) (λ p. here)

  pub run_root : ℕ → ℕ
  run_root = swept.roots

  pub run-has : Has fixed few (joined axis fixed es alone) run_root
  unfolding run_root
  run-has = swept.has

  run-one : {p q : ℕ} → Run axis es p q → run_root p ≡ run_root q
  unfolding run_root
  run-one here = refl
  run-one (on {p = p} {r = r} t s) = swept.met p r t ∙ run-one s
  run-one (back {p = p} {r = r} t s) = sym (swept.met r p t) ∙ run-one s

  ordered : (b c : Bool) (r q : ℕ) → (c ≡ true → q < 40) → ranked b r ≤ ranked c q → Ahead b c r q
  ordered true true r q i h = h
  ordered true false r q i h = tt
  ordered false true r q i h = omega (arith, i refl)
  ordered false false r q i h = omega arith

  pub run-root : (p : ℕ) → Root fixed axis es p (run_root p)
  unfolding run_root
  run-root p = record {
    inside = swept.linked p;
    first = λ q s.
        ordered (fixed_at fixed (run_root p)) (fixed_at fixed q) (run_root p) q (inside fixed few q)
        (rw (run-one s) (rooted fixed few (joined axis fixed es alone) run_root run-has q).1);
  }
