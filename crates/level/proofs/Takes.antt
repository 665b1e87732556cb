-- What the sweep over the points does: each that is not fixed takes its root's coordinate as it was before the sweep, since a
-- root keeps its own. Assumes nothing.
use Prim.Native.Nat.{ℕ, ◌+◌, ◌≤◌, ◌<◌}
use mathlib.Core.Bool.{Bool, true, false, not, ◌&&◌, cond}
use mathlib.Core.List.{List}
use mathlib.Core.Logic.{◌⊎◌, inl, inr, ◌≢◌}
use mathlib.Core.Path.{◌≡◌, refl, sym, ap, ◌∙◌, subst}
use native.Mathlib.Decide.{ℕ_discrete}
use native.Mathlib.Nat.{not-suc-le-zero}
use native.Mathlib.Omega.{arith}
use borrow.Author.Tests.{eqb-true, eqb-false}
use lib.Dec.{T, eqb}
use lib.Ieee.{Float, nan}
use lib.ListN.{length, get_or, set, length-set}
use lib.Seq.{get_or-set_same, get_or-set_other}
use Rattle.loops.specs.Turns.{up_to}
use Rattle.level.specs.Level.{place, follows, level_point, level_points}
use Rattle.level.specs.Parents.{Gives, find_of}
use Rattle.level.proofs.Forest.{fixed_at, Has, rooted, find-has, find-is}
use Rattle.loops.proofs.Keeps.{up_to-keeps}

module _ (fixed : List Bool) (few : length fixed ≤ 40) (axis n : ℕ) (ps : List ℕ) (ρ : ℕ → ℕ) (has : Has fixed few ps ρ) (before : List Float) where
  -- p keeps its coordinate: it is fixed, or a root
  abbrev Stays : ℕ → Type 0
  Stays p = (fixed_at fixed p ≡ true) ⊎ (ρ p ≡ p)

  -- after the turns of the first i points
  record Taken (i : ℕ) (s : Gives (List Float)) : Type 0 where
    forest : Has fixed few s.parents ρ
    sized : length s.answer ≡ length before
    taken : (p : ℕ) → p < i → fixed_at fixed p ≡ false → place axis p < length before
        → get_or s.answer (place axis p) nan ≡ get_or before (place axis (ρ p)) nan
    kept : (p : ℕ) → (i ≤ p) ⊎ Stays p → get_or s.answer (place axis p) nan ≡ get_or before (place axis p) nan
    other : (j : ℕ) → ((p : ℕ) → p < n → j ≢ place axis p) → get_or s.answer j nan ≡ get_or before j nan

  apart : (p q : ℕ) → p ≢ q → place axis p ≢ place axis q
  apart p q d e = d (omega arith)

  root-own : (p : ℕ) → ρ (ρ p) ≡ ρ p
  root-own p = has.top (ρ p) (rooted fixed few ps ρ has p).0

  -- what the test finds
  yes-not : (a b : Bool) → not a && not b ≡ true → (a ≡ false) × (b ≡ false)
  yes-not true b h = absurd (subst T (sym h) tt)
  yes-not false true h = absurd (subst T (sym h) tt)
  yes-not false false h = (refl, refl)

  no-not : (a b : Bool) → not a && not b ≡ false → (a ≡ true) ⊎ (b ≡ true)
  no-not true b h = inl refl
  no-not false true h = inr refl
  no-not false false h = absurd (subst T h tt)

  module _ (i : ℕ) (s : Gives (List Float)) (h : i < n) (d : Taken i s) where
    root-value : get_or s.answer (place axis (ρ i)) nan ≡ get_or before (place axis (ρ i)) nan
    root-value = d.kept (ρ i) (inr (inr (root-own i)))

    -- the list that the turn leaves where i follows its root
    abbrev written : List Float
    written = set s.answer (place axis i) (get_or s.answer (place axis (ρ i)) nan)

    untouched : (p : ℕ) → p ≢ i → get_or written (place axis p) nan ≡ get_or s.answer (place axis p) nan
    untouched p q = get_or-set_other s.answer (place axis i) (place axis p) _ nan (apart p i q)

    moved : ρ i ≢ i → fixed_at fixed i ≡ false → Taken (i + 1) (record { parents = (find_of s.parents i).parents; answer = written })
    moved r f = record {
      forest = find-has fixed few s.parents ρ d.forest i;
      sized = length-set s.answer (place axis i) _ ∙ d.sized;
      taken = λ p l e k. gets p l e k (ℕ_discrete p i);
      kept = λ p q. untouched p (λ e. clash p q e) ∙ d.kept p (wider p q);
      other = λ j q. get_or-set_other s.answer (place axis i) j _ nan (q i h) ∙ d.other j q;
    }
      where
        gets : (p : ℕ) → p < i + 1 → fixed_at fixed p ≡ false → place axis p < length before → Dec (p ≡ i)
            → get_or written (place axis p) nan ≡ get_or before (place axis (ρ p)) nan
        gets p l e k (yes q) =
            rw q (get_or-set_same s.answer (place axis i) _ nan (rw d.sized (rw q at k)) ∙ root-value)
        gets p l e k (no q) = untouched p q ∙ d.taken p (omega arith) e k

        clash : (p : ℕ) → (i + 1 ≤ p) ⊎ Stays p → p ≡ i → ⊥
        clash p (inl l) e = omega arith
        clash p (inr (inl q)) e = subst T (sym q ∙ ap (fixed_at fixed) e ∙ f) tt
        clash p (inr (inr q)) e = r (rw e at q)

        wider : (p : ℕ) → (i + 1 ≤ p) ⊎ Stays p → (i ≤ p) ⊎ Stays p
        wider p (inl l) = inl (omega arith)
        wider p (inr q) = inr q

    still : Stays i → Taken (i + 1) (record { parents = (find_of s.parents i).parents; answer = s.answer })
    still t = record {
      forest = find-has fixed few s.parents ρ d.forest i;
      sized = d.sized;
      taken = λ p l e k. gets p l e k (ℕ_discrete p i) t;
      kept = λ p q. d.kept p (wider p q);
      other = d.other;
    }
      where
        gets : (p : ℕ) → p < i + 1 → fixed_at fixed p ≡ false → place axis p < length before → Dec (p ≡ i) → Stays i
            → get_or s.answer (place axis p) nan ≡ get_or before (place axis (ρ p)) nan
        gets p l e k (yes q) (inl f) = absurd (subst T (sym f ∙ ap (fixed_at fixed) (sym q) ∙ e) tt)
        gets p l e k (yes q) (inr r) = d.kept p (inl (omega arith)) ∙ ap (λ x. get_or before (place axis x) nan) (q ∙ sym r ∙ ap ρ (sym q))
        gets p l e k (no q) u = d.taken p (omega arith) e k

        wider : (p : ℕ) → (i + 1 ≤ p) ⊎ Stays p → (i ≤ p) ⊎ Stays p
        wider p (inl l) = inl (omega arith)
        wider p (inr q) = inr q

    next : Taken (i + 1) (level_point axis fixed i s)
    unfolding level_point
    next = rw (find-is fixed few s.parents ρ d.forest i) (go (follows fixed (ρ i) i) refl)
      where
        go : (b : Bool) → follows fixed (ρ i) i ≡ b
            → Taken (i + 1) (record { parents = (find_of s.parents i).parents; answer = cond b written s.answer })
        go true e = let t = yes-not (eqb (ρ i) i) (fixed_at fixed i) e in moved (eqb-false (ρ i) i t.0) t.1
        go false e = still (stays (no-not (eqb (ρ i) i) (fixed_at fixed i) e))
          where
            stays : (eqb (ρ i) i ≡ true) ⊎ (fixed_at fixed i ≡ true) → Stays i
            stays (inl q) = inr (eqb-true (ρ i) i q)
            stays (inr q) = inl q

  done : Taken n (up_to n 0 (level_point axis fixed) (record { parents = ps; answer = before }))
  done =
      up_to-keeps Taken (level_point axis fixed) n next 0 (record { parents = ps; answer = before }) (omega arith)
      (record {
        forest = has;
        sized = refl;
        taken = λ p l. absurd (not-suc-le-zero l);
        kept = λ p q. refl;
        other = λ j q. refl;
      })

  abbrev after : List Float
  after = level_points axis fixed n ps before

  pub sweep-sized : length after ≡ length before
  unfolding level_points
  sweep-sized = done.sized

  pub sweep-taken : (p : ℕ) → p < n → fixed_at fixed p ≡ false → place axis p < length before
      → get_or after (place axis p) nan ≡ get_or before (place axis (ρ p)) nan
  unfolding level_points
  sweep-taken = done.taken

  pub sweep-kept : (p : ℕ) → fixed_at fixed p ≡ true → get_or after (place axis p) nan ≡ get_or before (place axis p) nan
  unfolding level_points
  sweep-kept p e = done.kept p (inr (inl e))

  pub sweep-other : (j : ℕ) → ((p : ℕ) → p < n → j ≢ place axis p) → get_or after j nan ≡ get_or before j nan
  unfolding level_points
  sweep-other = done.other
