-- Which column the loop over the columns names (specs/Reasons.antt). Assumes nothing.
use Prim.Native.Nat.{ℕ, zero, suc, ◌+◌, ◌<◌}
use mathlib.Core.Bool.{Bool, true, false, cond, true≢false}
use mathlib.Core.List.{List}
use mathlib.Core.Path.{◌≡◌, refl, sym, ap, ◌∙◌}
use native.Mathlib.Nat.{add-zero, zero-add}
use native.Mathlib.Omega.{arith}
use lib.Ieee.{Float}
use lib.Ieee.Scale.{finite}
use Rattle.loops.specs.Turns.{Try, go, stop, after, tries, try_to, every}
use Rattle.loops.proofs.Turning.{try_to-all}
use Rattle.solver.specs.Reasons.{Reasoned, some, no_pivot, not_finite, on_some, option_of, or_no_pivot, columns_from, if_finite, reasoned_of, Forgotten, matrix_of, ComesTo, Pivots, Lacks, FirstColumn, NotFiniteExactly, ColumnNamed}
use Rattle.solver.specs.Steps.{Sys, sys, scale_of, singular, column_of, eliminated_of, back_of, all_finite, solution_of}

module _ (f : ℕ → Sys → Try Sys) where
  -- ---- the reason forgotten

  columns-forgotten : (k col : ℕ) (s : Sys) → option_of (columns_from f k col s) ≡ tries k col f s
  unfolding columns_from tries
  columns-forgotten zero col s = refl
  columns-forgotten (suc k) col s = by (f col s) (columns-forgotten k (col + 1))
    where
      by : (t : Try Sys) → ((u : Sys) → option_of (columns_from f k (col + 1) u) ≡ tries k (col + 1) f u)
          → option_of (or_no_pivot t col (columns_from f k (col + 1))) ≡ after t (tries k (col + 1) f)
      by (go u) rest = rest u
      by stop rest = refl

  -- ---- which column is named

  -- the loop is stopped at the j-th column from col on, which it comes to at the system u
  Stops : ℕ → ℕ → Sys → Type 0
  Stops j col s = (u : Sys) × (tries j col f s ≡ go u) × (f (col + j) u ≡ stop)

  stops-later : (j col : ℕ) (s v : Sys) → f col s ≡ go v → Stops j (col + 1) v → Stops (suc j) col s
  unfolding Stops tries
  stops-later j col s v e (u, t, h) = let i : (col + 1) + j ≡ col + suc j = omega arith in (u, rw e t, rw i at h)

  named : (k col : ℕ) (s : Sys) (c : ℕ) → columns_from f k col s ≡ no_pivot c → (j : ℕ) × (j < k) × (c ≡ col + j + 1) × Stops j col s
  unfolding columns_from Stops tries
  named zero col s c e = absurd (true≢false cc)
  named (suc k) col s c e = by (f col s) refl (named k (col + 1)) e
    where
      by : (t : Try Sys) → f col s ≡ t → ((v : Sys) (c : ℕ) → columns_from f k (col + 1) v ≡ no_pivot c → (j : ℕ) × (j < k) × (c ≡ (col + 1) + j + 1) × Stops j (col + 1) v)
          → or_no_pivot t col (columns_from f k (col + 1)) ≡ no_pivot c → (j : ℕ) × (j < suc k) × (c ≡ col + j + 1) × Stops j col s
      by (go v) q rest e = let (j, h, i, st) = rest v c e in (suc j, omega arith, omega arith, stops-later j col s v q st)
      by stop q rest e = let i : c ≡ col + 1 = cc in (0, omega arith, omega arith, (s, refl, rw add-zero q))

  stopped : (j k col : ℕ) (s : Sys) → j < k → Stops j col s → columns_from f k col s ≡ no_pivot (col + j + 1)
  unfolding columns_from Stops tries
  stopped j zero col s h st = absurd (omega (arith, h))
  stopped zero (suc k) col s h (u, t, q) = let e : s ≡ u = cc in rw (add-zero, rw (add-zero, ← e) at q)
  stopped (suc j) (suc k) col s h (u, t, q) = by (f col s) t (stopped j k (col + 1))
    where
      by : (r : Try Sys) → after r (tries j (col + 1) f) ≡ go u → ((v : Sys) → j < k → Stops j (col + 1) v → columns_from f k (col + 1) v ≡ no_pivot ((col + 1) + j + 1))
          → or_no_pivot r col (columns_from f k (col + 1)) ≡ no_pivot (col + suc j + 1)
      by (go v) t rest = let i : (col + 1) + j ≡ col + suc j = omega arith in rw i at (rest v (omega arith) (u, t, rw (← i) at q))
      by stop t rest = absurd (true≢false cc)

  -- every column before has its turn
  passed : (j col : ℕ) (s u : Sys) → tries j col f s ≡ go u → (k : ℕ) → k < j → (v w : Sys) × (tries k col f s ≡ go v) × (f (col + k) v ≡ go w)
  unfolding tries
  passed zero col s u t k h = absurd (omega (arith, h))
  passed (suc j) col s u t k h = by (f col s) refl t (passed j (col + 1)) k h
    where
      by : (r : Try Sys) → f col s ≡ r → after r (tries j (col + 1) f) ≡ go u
          → ((v u : Sys) → tries j (col + 1) f v ≡ go u → (k : ℕ) → k < j → (x w : Sys) × (tries k (col + 1) f v ≡ go x) × (f ((col + 1) + k) x ≡ go w))
          → (k : ℕ) → k < suc j → (v w : Sys) × (tries k col f s ≡ go v) × (f (col + k) v ≡ go w)
      by (go v) e t rest zero h = (s, v, refl, rw add-zero e)
      by (go v) e t rest (suc k) h =
          let (x, w, p, q) = rest v u t k (omega arith) in
          let i : (col + 1) + k ≡ col + suc k = omega arith in
          (x, w, rw e p, rw i at q)
      by stop e t rest k h = absurd (true≢false cc)

finite-forgotten : (y : List Float) → option_of (if_finite y) ≡ all_finite y
unfolding if_finite all_finite
finite-forgotten y = by (every finite y)
  where
    by : (b : Bool) → option_of (cond b (some y) not_finite) ≡ cond b (go y) stop
    by true = refl
    by false = refl

some-forgotten : (n : ℕ) (x : Reasoned Sys) → option_of (on_some x (λ s. if_finite (back_of n s))) ≡ after (option_of x) (λ s. all_finite (back_of n s))
some-forgotten n (some s) = finite-forgotten (back_of n s)
some-forgotten n (no_pivot c) = refl
some-forgotten n not_finite = refl

pub forgotten : Forgotten
unfolding reasoned_of solution_of eliminated_of
forgotten n a b =
    some-forgotten n (columns_from (column_of n (scale_of a)) n 0 (sys a b))
    ∙ ap (λ t. after t (λ s. all_finite (back_of n s))) (columns-forgotten (column_of n (scale_of a)) n 0 (sys a b) ∙ sym (try_to-all (column_of n (scale_of a)) n (sys a b)))

-- ---- a column, and its pivot

module _ (n col : ℕ) (scale : Float) where
  is-singular : (s : Sys) → column_of n scale col s ≡ stop → singular n scale col (matrix_of s) ≡ true
  unfolding column_of
  is-singular (sys a b) e = by (singular n scale col a) _ e
    where
      by : (t : Bool) (w : Sys) → cond t stop (go w) ≡ stop → t ≡ true
      by true w e = refl
      by false w e = cc

  has-pivot : (s w : Sys) → column_of n scale col s ≡ go w → singular n scale col (matrix_of s) ≡ false
  unfolding column_of
  has-pivot (sys a b) w e = by (singular n scale col a) _ e
    where
      by : (t : Bool) (v : Sys) → cond t stop (go v) ≡ go w → t ≡ false
      by true v e = cc
      by false v e = refl

  stops-there : (s : Sys) → singular n scale col (matrix_of s) ≡ true → column_of n scale col s ≡ stop
  unfolding column_of
  stops-there (sys a b) e = rw e

module _ (n : ℕ) (a b : List Float) where
  abbrev turn : ℕ → Sys → Try Sys
  turn = column_of n (scale_of a)

  -- what came of the columns is what is answered, unless all had their pivot
  of-columns : (c : ℕ) (x : Reasoned Sys) → on_some x (λ s. if_finite (back_of n s)) ≡ no_pivot c → x ≡ no_pivot c
  unfolding if_finite
  of-columns c (some s) e = by (every finite (back_of n s)) e
    where
      by : (t : Bool) → cond t (some (back_of n s)) not_finite ≡ no_pivot c → some s ≡ no_pivot c
      by true e = cc
      by false e = cc
  of-columns c (no_pivot d) e = cc
  of-columns c not_finite e = cc

  pub named-first : (c : ℕ) → reasoned_of n a b ≡ no_pivot c → (j : ℕ) × (j < n) × (c ≡ j + 1) × Lacks n a b j × ((k : ℕ) → k < j → Pivots n a b k)
  unfolding reasoned_of Stops
  named-first c e =
      let (j, h, i, (u, t, q)) = named turn n 0 (sys a b) c (of-columns c _ e) in (
        j,
        h,
        omega (arith, i),
        record { at = u; comes = try_to-all turn j (sys a b) ∙ t; no-pivot = is-singular n j (scale_of a) u (rw zero-add at q) },
        λ k l.
            let (v, w, p, r) = passed turn j 0 (sys a b) u t k l in
            record { at = v; comes = try_to-all turn k (sys a b) ∙ p; pivot = has-pivot n k (scale_of a) v w (rw zero-add at r) },
      )

  lacking : (col : ℕ) → col < n → Lacks n a b col → reasoned_of n a b ≡ no_pivot (col + 1)
  unfolding reasoned_of Stops
  lacking col h l =
      let q : turn col l.at ≡ stop = stops-there n col (scale_of a) l.at l.no-pivot in
      rw zero-add at (ap (λ x. on_some x (λ s. if_finite (back_of n s))) (stopped turn col n 0 (sys a b) h (l.at, sym (try_to-all turn col (sys a b)) ∙ l.comes, rw zero-add q)))

pub first-column : FirstColumn
first-column n a b col = (forth, λ (h, l, r). lacking n a b col h l)
  where
    forth : reasoned_of n a b ≡ no_pivot (col + 1) → (col < n) × Lacks n a b col × ((k : ℕ) → k < col → Pivots n a b k)
    forth e =
        let (j, h, i, l, r) = named-first n a b (col + 1) e in
        let same : j ≡ col = omega arith in
        (rw same at h, rw same at l, rw same at r)

pub column-named : ColumnNamed
column-named n a b c e = let (j, h, i, l, r) = named-first n a b c e in (omega arith, omega arith)

-- ---- a result that is not finite

never : (f : ℕ → Sys → Try Sys) (k col : ℕ) (s : Sys) → columns_from f k col s ≡ not_finite → ⊥
unfolding columns_from
never f zero col s e = absurd (true≢false cc)
never f (suc k) col s e = by (f col s) e (never f k (col + 1))
  where
    by : (t : Try Sys) → or_no_pivot t col (columns_from f k (col + 1)) ≡ not_finite → ((u : Sys) → columns_from f k (col + 1) u ≡ not_finite → ⊥) → ⊥
    by (go u) e rest = rest u e
    by stop e rest = absurd (true≢false cc)

module _ (n : ℕ) where
  unfinished : (x : Reasoned Sys) → (x ≡ not_finite → ⊥) → on_some x (λ s. if_finite (back_of n s)) ≡ not_finite → (s : Sys) × (option_of x ≡ go s) × (every finite (back_of n s) ≡ false)
  unfolding if_finite
  unfinished (some s) h e = (s, refl, by (every finite (back_of n s)) e)
    where
      by : (t : Bool) → cond t (some (back_of n s)) not_finite ≡ not_finite → t ≡ false
      by true e = cc
      by false e = refl
  unfinished (no_pivot c) h e = absurd (true≢false cc)
  unfinished not_finite h e = absurd (h refl)

  finished : (x : Reasoned Sys) (s : Sys) → option_of x ≡ go s → every finite (back_of n s) ≡ false → on_some x (λ s. if_finite (back_of n s)) ≡ not_finite
  unfolding if_finite
  finished (some u) s e h = let i : u ≡ s = cc in rw (i, h)
  finished (no_pivot c) s e h = cc
  finished not_finite s e h = refl

pub not-finite-exactly : NotFiniteExactly
unfolding reasoned_of
not-finite-exactly n a b = (forth, back)
  where
    came : option_of (columns_from (column_of n (scale_of a)) n 0 (sys a b)) ≡ try_to n 0 (column_of n (scale_of a)) (sys a b)
    came = columns-forgotten (column_of n (scale_of a)) n 0 (sys a b) ∙ sym (try_to-all (column_of n (scale_of a)) n (sys a b))

    forth : reasoned_of n a b ≡ not_finite → (s : Sys) × ComesTo n a b n s × (every finite (back_of n s) ≡ false)
    forth e =
        let (s, t, h) = unfinished n (columns_from (column_of n (scale_of a)) n 0 (sys a b)) (never (column_of n (scale_of a)) n 0 (sys a b)) e in
        (s, sym came ∙ t, h)

    back : (s : Sys) × ComesTo n a b n s × (every finite (back_of n s) ≡ false) → reasoned_of n a b ≡ not_finite
    back (s, t, h) = finished n (columns_from (column_of n (scale_of a)) n 0 (sys a b)) s (came ∙ t) h
