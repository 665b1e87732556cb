-- From what the tries of a round promise to the definition. Assumes nothing.
use Prim.Native.Nat.{ℕ, suc, ◌+◌, ◌-◌, ◌*◌, ◌≤◌, ◌<◌}
use mathlib.Core.Bool.{true, false}
use mathlib.Core.List.{List, ◌++◌}
use mathlib.Core.Path.{◌≡◌, refl, sym, ap, ◌∙◌}
use native.Mathlib.Nat.{le_refl}
use native.Mathlib.Omega.{arith}
use borrow.Author.Tests.{le-leb, le-ltb}
use lib.Ieee.{Float}
use lib.ListN.{length, drop}
use Rattle.std.specs.Prelude.{Result, Ok}
use Rattle.std.specs.Result.{result_unwrap_or}
use Rattle.floats.specs.Ops.{zero⁺}
use Rattle.normal.proofs.Halves.{same_numbers}
use Rattle.normal.specs.Half.{triangle, half_of, spread_of, half_max_of, HalfHolds}
use Rattle.normal.specs.Normal.{product_of, diag_max_of}
use Rattle.normal.specs.Promise.{Answered, Multiplies, Tops}
use Rattle.slices.specs.declared.Refusal.{Refusal}
use Rattle.loops.proofs.Picks.{either}
use Rattle.solver.specs.Reasons.{Reasoned, some, no_pivot, not_finite}
use Rattle.rounds.specs.Inside.{tries_at}
use Rattle.rounds.specs.Solve.{Problem, State, Trial, Tried, judged, trial_of, try_of, tries_of, or_next, better, taken, harder}
use Rattle.rounds.specs.declared.Reason.{Reason}
use Rattle.rounds.specs.declared.Reason.TheVariants.{NoPivot, NotFinite, NotLess}

-- ---- what a round begins with: the half of the product, which holds the product, and the largest number on its diagonal

module _ (rows nf : ℕ) (j h h' : List Float) (few : rows ≤ 80) (narrow : nf ≤ 80) (l : length j ≡ rows * nf) (k : length h ≡ triangle rows) (d : Answered) (e : Multiplies rows nf j h h' d) where
  holds : HalfHolds rows (product_of rows nf j) h'
  holds =
      let p : rows * nf ≤ length j = rw l (le_refl _) in
      let q : triangle rows ≤ length h = rw k (le_refl _) in
      let made : h' ≡ half_of rows (product_of rows nf j) ++ drop (triangle rows) h =
      e.slice ∙ rw (le-ltb 80 rows few, le-ltb 80 nf narrow, le-leb (rows * nf) (length j) p, le-leb (triangle rows) (length h) q) in
      rw made (same_numbers rows nf j (drop (triangle rows) h)).1

  pub product_found : spread_of rows h' ≡ product_of rows nf j
  product_found = holds.spread

  pub diagonal-found : (t : Result Float Refusal) (m : Float) → length h' ≡ length h → Tops rows h' t → m ≡ result_unwrap_or t zero⁺ → m ≡ diag_max_of rows (spread_of rows h')
  diagonal-found t m kept o c =
      let q : triangle rows ≤ length h' = rw (kept ∙ k) (le_refl _) in
      let a : t ≡ Ok (half_max_of rows h') = o.answer ∙ rw (le-ltb 80 rows few, le-leb (triangle rows) (length h') q) in
      c ∙ rw (a, product_found) holds.largest

module _ (P : Problem) (j h h' : List Float) (n : ℕ) (count : n ≡ P.rows) (few : P.rows ≤ 80) (narrow : length P.free ≤ 80) (l : length j ≡ P.rows * length P.free)
    (k : length h ≡ triangle P.rows) (d : Answered) (e : Multiplies n (length P.free) j h h' d) (kept : length h' ≡ length h) where
  pub tries_start : (t : Result Float Refusal) (m : Float) (s : State) → Tops n h' t → m ≡ result_unwrap_or t zero⁺
      → tries_of P j (spread_of P.rows h') m 12 s ≡ tries_at P j s
  tries_start t m s o c =
      let product : Multiplies P.rows (length P.free) j h h' d = rw count at e in
      let tops : Tops P.rows h' t = rw count at o in
      rw (
        diagonal-found P.rows (length P.free) j h h' few narrow l k d product t m kept tops c,
        product_found P.rows (length P.free) j h h' few narrow l k d product,
      )

-- ---- a try

-- what holds of a try that is taken and of one that is not, for whatever reason, holds of every try
pub of-try : (Q : Tried → Type 0) (s : State) → ((t : Trial) → Q (record { improved = true; state = taken s t })) → ((w : Reason) → Q (record { improved = false; state = harder w s }))
    → (o : Reasoned Trial) → Q (judged s o)
of-try Q s taking leaving (some t) = either Q (better s t) _ _ (taking t) (leaving NotLess)
of-try Q s taking leaving (no_pivot c) = leaving (NoPivot c)
of-try Q s taking leaving not_finite = leaving NotFinite

pub counted : (s : State) (o : Reasoned Trial) → (judged s o).state.tries ≡ s.tries + 1
counted s = of-try (λ t. t.state.tries ≡ s.tries + 1) s (λ t. refl) (λ w. refl)

module _ (P : Problem) (j a : List Float) (m : Float) where
  pub one_more : (s : State) (t : Tried) → t ≡ try_of P j a m s → t.state.tries ≡ s.tries + 1
  unfolding try_of
  one_more s t e = ap (λ (u : Tried). u.state.tries) e ∙ counted s (trial_of P j a m s.mu s.x s.r)

  tries-step : (k n : ℕ) (s : State) (t : Tried) → n ≡ suc k → t ≡ try_of P j a m s → tries_of P j a m n s ≡ or_next t.improved t.state (tries_of P j a m k)
  unfolding tries_of
  tries-step k n s t e q = rw (e, q)

  module _ (i : ℕ) (s u : State) (R : Tried) (h : i < 12) (q : tries_of P j a m (12 - i) s ≡ R) where
    pub tries_next : record { improved = false; state = u } ≡ try_of P j a m s → tries_of P j a m (12 - (i + 1)) u ≡ R
    tries_next e = sym (tries-step (12 - (i + 1)) (12 - i) s _ (omega arith) e) ∙ q

    pub tries_stop : record { improved = true; state = u } ≡ try_of P j a m s → record { improved = true; state = u } ≡ R
    tries_stop e = sym (tries-step (12 - (i + 1)) (12 - i) s _ (omega arith) e) ∙ q

  tries-none : (n : ℕ) (s : State) → n ≡ 0 → tries_of P j a m n s ≡ record { improved = false; state = s }
  unfolding tries_of
  tries-none n s e = rw e

  pub tries_done : (i : ℕ) (s : State) (R : Tried) → 12 ≤ i → tries_of P j a m (12 - i) s ≡ R → record { improved = false; state = s } ≡ R
  tries_done i s R h q = sym (tries-none (12 - i) s (omega arith)) ∙ q
