-- The lesser exchange comes to the definition's solution, or to none for its reason (specs/Lesser.antt): each step keeps that the two matrices agree at every place
-- that is still read, since the exchange of the left part writes none of them. Assumes nothing.
use Prim.Native.Nat.{ℕ, zero, suc, ◌+◌, ◌*◌, ◌≤◌, ◌<◌}
use mathlib.Core.List.{List}
use mathlib.Core.Logic.{inl, inr}
use mathlib.Core.Path.{◌≡◌, refl, sym, ap, ap₂, subst, ◌∙◌}
use native.Mathlib.Nat.{mul-le-mul_right, le_refl}
use native.Mathlib.Omega.{arith}
use lib.Dec.{ltb, eqb}
use lib.ListN.{set, replicate, length-set}
use lib.Seq.{get_or-set_other}
use lib.Ieee.{Float, nan, eq, le}
use Rattle.floats.specs.Lists.{swap_at}
use Rattle.floats.specs.Magnitude.{abs_of, magnitude_of}
use Rattle.floats.specs.Ops.{◌⊖◌, ◌⊗◌, ◌⊘◌, zero⁺, zero⁻, 1e-15}
use Rattle.loops.specs.Turns.{Try, go, stop, InStep, up_to}
use Rattle.loops.proofs.Both.{up_to-both, up_to-same, try_to-both, down_to-same}
use Rattle.loops.proofs.Cells.{cell-column}
use Rattle.loops.proofs.Keeps.{up_to-keeps}
use Rattle.loops.proofs.Parts.{set-both}
use Rattle.loops.proofs.Picks.{either, either-both}
use Rattle.loops.proofs.Turning.{up_to-split}
use Rattle.solver.specs.Lesser.{part_swapped, lesser_swapped, lesser_column, lesser_eliminated, StillRead, ReadAlike, SysAlike, StepsAgree, SameElimination}
use Rattle.solver.specs.Reasons.{Reasoned, some, no_pivot, not_finite, on_some, or_no_pivot, columns_from, if_finite, reasoned_of}
use Rattle.solver.specs.Steps.{Sys, sys, at, scale_of, larger_row, pivot_of, swap_column, swapped, less_at, less_row, row_of, below_of, singular, column_of, add_term, sum_of, back_at, back_of}

module _ (n col : ℕ) where
  -- ---- a write to both

  set-agree : (i : ℕ) (v w : Float) (a a' : List Float) → v ≡ w → ReadAlike n col a a' → ReadAlike n col (set a i v) (set a' i w)
  set-agree i v w a a' e g = rw e record {
    long = length-set a i w ∙ g.long ∙ sym (length-set a' i w);
    same = λ r c h k. set-both a a' i (r * n + c) w nan g.long (g.same r c h k);
  }

  swap-agree : (p q c : ℕ) (a a' : List Float) → col ≤ c → c < n → ReadAlike n col a a' → ReadAlike n col (swap_column n p q c a) (swap_column n p q c a')
  unfolding swap_column swap_at
  swap-agree p q c a a' h k g = set-agree _ _ _ _ _ (g.same p c k (inl h)) (set-agree _ _ _ _ _ (g.same q c k (inl h)) g)

  less-agree : (r c : ℕ) (f : Float) (a a' : List Float) → col ≤ c → c < n → ReadAlike n col a a' → ReadAlike n col (less_at n col r f c a) (less_at n col r f c a')
  unfolding less_at
  less-agree r c f a a' h k g = set-agree _ _ _ _ _ (ap₂ (λ x y. x ⊖ f ⊗ y) (g.same r c k (inl h)) (g.same col c k (inl h))) g

  -- ---- the rows below the pivot

  less-alike : (r : ℕ) (f : Float) (a a' b : List Float) → ReadAlike n col a a' → SysAlike n col (less_row n col r f (sys a b)) (less_row n col r f (sys a' b))
  unfolding less_row
  less-alike r f a a' b g =
      either-both (SysAlike n col) (eq f zero⁺) _ _ _ _ (g, refl) (up_to-both (ReadAlike n col) (less_at n col r f) (less_at n col r f) col n (λ c s t h k. less-agree r c f s t h k) a a' g, refl)

  module _ (within : col < n) where
    in-column : (a a' : List Float) → ReadAlike n col a a' → (r : ℕ) → at a (r * n + col) ≡ at a' (r * n + col)
    in-column a a' g r = g.same r col within (inl (le_refl col))

    row-alike : (p : Float) (r : ℕ) (s t : Sys) → SysAlike n col s t → SysAlike n col (row_of n col p r s) (row_of n col p r t)
    unfolding row_of
    row-alike p r (sys a b) (sys a' b') (g, e) = rw (← e, in-column a a' g r) (less-alike r (at a' (r * n + col) ⊘ p) a a' b g)

    below_alike : (s t : Sys) → SysAlike n col s t → SysAlike n col (below_of n col s) (below_of n col t)
    unfolding below_of
    below_alike (sys a b) (sys a' b') (g, e) =
        let p : Float = at a' (col * n + col) in
        rw (in-column a a' g col) (up_to-both (SysAlike n col) (row_of n col p) (row_of n col p) (col + 1) n (λ r s t h k. row-alike p r s t) (sys a b) (sys a' b') (g, e))

    -- ---- the pivot

    pivot-same : (a a' : List Float) → ReadAlike n col a a' → pivot_of n col a ≡ pivot_of n col a'
    unfolding pivot_of larger_row
    pivot-same a a' g =
        up_to-same (larger_row n col a) (larger_row n col a') (col + 1) n (λ q p h k. rw (in-column a a' g p, in-column a a' g q)) col

    pivot-from : (a : List Float) → col ≤ pivot_of n col a
    unfolding pivot_of larger_row
    pivot-from a =
        (up_to-keeps (λ i p. (col ≤ i) × (col ≤ p)) (larger_row n col a) n
        (λ q p h k. (omega arith, either (λ p. col ≤ p) (ltb (magnitude_of (at a (p * n + col))) (magnitude_of (at a (q * n + col)))) q p k.0 k.1))
        (col + 1) col (omega arith) (omega arith, le_refl col)).1

    -- ---- the exchange

    -- a place left of the column, in a row from it on, is not read
    apart : (q i r c : ℕ) → i < col → col ≤ q → c < n → StillRead col r c → r * n + c ≡ q * n + i → ⊥
    apart q i r c h k l (inl m) e = let u : c ≡ i = cell-column n r c q i l (omega arith) e in omega arith
    apart q i r c h k l (inr m) e =
        let u : c ≡ i = cell-column n r c q i l (omega arith) e in
        let v : r < q = omega arith in
        omega (arith, mul-le-mul_right n v)

    write-agree : (q i : ℕ) (v : Float) (a a' : List Float) → i < col → col ≤ q → ReadAlike n col a a' → ReadAlike n col (set a (q * n + i) v) a'
    write-agree q i v a a' h k g = record {
      long = length-set a (q * n + i) v ∙ g.long;
      same = λ r c l m. get_or-set_other a (q * n + i) (r * n + c) v nan (apart q i r c h k l m) ∙ g.same r c l m;
    }

    module _ (piv : ℕ) (from : col ≤ piv) where
      left-agree : (i : ℕ) (a a' : List Float) → i < col → ReadAlike n col a a' → ReadAlike n col (swap_column n piv col i a) a'
      unfolding swap_column swap_at
      left-agree i a a' h g = write-agree col i _ _ _ h (le_refl col) (write-agree piv i _ _ _ h from g)

      rows_agree : (a a' : List Float) → ReadAlike n col a a' → ReadAlike n col (up_to n 0 (swap_column n piv col) a) (part_swapped n col piv a')
      unfolding part_swapped
      rows_agree a a' g =
          rw (up_to-split (swap_column n piv col) n col 0 a (omega arith) (omega arith))
          (up_to-both (ReadAlike n col) (swap_column n piv col) (swap_column n piv col) col n (λ c s t h k. swap-agree piv col c s t h k) _ a'
          (up_to-keeps (λ i s. ReadAlike n col s a') (swap_column n piv col) col (λ i s h g. left-agree i s a' h g) 0 a (omega arith) g))

      swapped-alike : (a a' b : List Float) → ReadAlike n col a a' → SysAlike n col (swapped n col piv (sys a b)) (lesser_swapped n col piv (sys a' b))
      unfolding swapped lesser_swapped
      swapped-alike a a' b g = either-both (SysAlike n col) (eqb piv col) _ _ _ _ (g, refl) (rows_agree a a' g, refl)

    -- ---- a turn

    weaker : (s t : Sys) → SysAlike n col s t → SysAlike n (col + 1) s t
    weaker (sys a b) (sys a' b') (g, e) = (record { long = g.long; same = λ r c h k. g.same r c h (read r c k) }, e)
      where
        read : (r c : ℕ) → StillRead (col + 1) r c → StillRead col r c
        read r c (inl h) = inl (omega arith)
        read r c (inr h) = inr h

    column-alike : (scale : Float) (s t : Sys) → SysAlike n col s t → InStep (SysAlike n (col + 1)) (column_of n scale col s) (lesser_column n scale col t)
    unfolding column_of lesser_column singular
    column-alike scale (sys a b) (sys a' b') (g, e) =
        let piv : ℕ = pivot_of n col a in
        let s : Sys = swapped n col piv (sys a b) in
        let t : Sys = lesser_swapped n col piv (sys a' b) in
        rw (← e, ← pivot-same a a' g, ← in-column a a' g piv)
        (either-both (InStep (SysAlike n (col + 1))) (le (abs_of (at a (piv * n + col))) (scale ⊗ 1e-15)) stop (go (below_of n col s)) stop (go (below_of n col t)) tt
        (weaker (below_of n col s) (below_of n col t) (below_alike s t (swapped-alike piv (pivot-from a) a a' b g))))

itself : (n : ℕ) (s : Sys) → SysAlike n 0 s s
itself n (sys a b) = (record { long = refl; same = λ r c h k. refl }, refl)

pub steps-agree : StepsAgree
steps-agree n k scale s h =
    try_to-both (SysAlike n) (column_of n scale) (lesser_column n scale) k (λ i s t l r. column-alike n i (omega arith) scale s t r) 0 s s (omega arith) (itself n s)

-- ---- what is read of the matrix at the end

module _ (n : ℕ) where
  sum_same : (r : ℕ) (a a' y : List Float) → ReadAlike n n a a' → sum_of n r a y ≡ sum_of n r a' y
  unfolding sum_of add_term
  sum_same r a a' y g = up_to-same (add_term n r a y) (add_term n r a' y) (r + 1) n (λ c s h k. rw (g.same r c k (inr (omega arith)))) zero⁻

  back-same : (s t : Sys) → SysAlike n n s t → back_of n s ≡ back_of n t
  unfolding back_of back_at
  back-same (sys a b) (sys a' b') (g, e) =
      rw (← e) (down_to-same (back_at n a b) (back_at n a' b) n (λ r y h. rw (sum_same r a a' y g, g.same r r h (inr (le_refl r)))) (replicate n zero⁺))

-- ---- the two loops, and what they come to

-- both went through to systems that agree, or both were stopped at one column
abbrev Alike : ℕ → Reasoned Sys → Reasoned Sys → Type 0
Alike n (some s) (some t) = SysAlike n n s t
Alike n (some s) (no_pivot d) = ⊥
Alike n (some s) not_finite = ⊥
Alike n (no_pivot c) (some t) = ⊥
Alike n (no_pivot c) (no_pivot d) = c ≡ d
Alike n (no_pivot c) not_finite = ⊥
Alike n not_finite (some t) = ⊥
Alike n not_finite (no_pivot d) = ⊥
Alike n not_finite not_finite = Unit {0}

module _ (n : ℕ) (scale : Float) where
  columns-agree : (k col : ℕ) (s t : Sys) → col + k ≡ n → SysAlike n col s t → Alike n (columns_from (column_of n scale) k col s) (columns_from (lesser_column n scale) k col t)
  unfolding columns_from
  columns-agree zero col s t e g = let h : col ≡ n = omega arith in subst (λ i. SysAlike n i s t) h g
  columns-agree (suc k) col s t e g =
      by (column_of n scale col s) (lesser_column n scale col t) (column-alike n col (omega arith) scale s t g) (λ u v. columns-agree k (col + 1) u v (omega arith))
    where
      by : (x y : Try Sys) → InStep (SysAlike n (col + 1)) x y
          → ((u v : Sys) → SysAlike n (col + 1) u v → Alike n (columns_from (column_of n scale) k (col + 1) u) (columns_from (lesser_column n scale) k (col + 1) v))
          → Alike n (or_no_pivot x col (columns_from (column_of n scale) k (col + 1))) (or_no_pivot y col (columns_from (lesser_column n scale) k (col + 1)))
      by (go u) (go v) r rest = rest u v r
      by (go u) stop r rest = absurd r
      by stop (go v) r rest = absurd r
      by stop stop r rest = refl

  back-alike : (x y : Reasoned Sys) → Alike n x y → on_some y (λ s. if_finite (back_of n s)) ≡ on_some x (λ s. if_finite (back_of n s))
  back-alike (some s) (some t) g = ap if_finite (sym (back-same n s t g))
  back-alike (some s) (no_pivot d) g = absurd g
  back-alike (some s) not_finite g = absurd g
  back-alike (no_pivot c) (some t) g = absurd g
  back-alike (no_pivot c) (no_pivot d) g = ap no_pivot (sym g)
  back-alike (no_pivot c) not_finite g = absurd g
  back-alike not_finite (some t) g = absurd g
  back-alike not_finite (no_pivot d) g = absurd g
  back-alike not_finite not_finite g = refl

pub same-elimination : SameElimination
unfolding reasoned_of lesser_eliminated
same-elimination n a b =
    back-alike n (scale_of a) (columns_from (column_of n (scale_of a)) n 0 (sys a b)) (lesser_eliminated n (sys a b))
    (columns-agree n (scale_of a) n 0 (sys a b) (sys a b) (omega arith) (itself n (sys a b)))
