-- From what the calls of a round, and of the rounds, promise to the definition. Assumes nothing.
use Prim.Native.Nat.{ℕ, zero, suc, ◌+◌, ◌-◌, ◌≤◌, ◌<◌}
use mathlib.Core.Bool.{Bool, true, false, cond}
use mathlib.Core.List.{List}
use mathlib.Core.Path.{◌≡◌, refl, sym, ap, ◌∙◌}
use native.Mathlib.Omega.{arith}
use lib.Dec.{eqb}
use lib.Ieee.{Float}
use Rattle.std.specs.Prelude.{Result, Ok, Err}
use Rattle.std.specs.declared.ops.ControlFlow.{ControlFlow}
use Rattle.std.specs.declared.ops.ControlFlow.TheVariants.{Continue, Break}
use Rattle.solver.specs.Reasons.{Reasoned}
use Rattle.rounds.proofs.Holding.{round-own}
use Rattle.rounds.proofs.Turn.{of-try, counted}
use Rattle.rounds.specs.Inside.{begun_fit, polished_fit, step_of, tries_at, ended_of}
use Rattle.rounds.specs.Problem.{state_of, tried_of}
use Rattle.rounds.specs.Solve.{Problem, State, Trial, Tried, Outcome, within, judged, trial_of, try_of, tries_of, or_next, begun, round_of, rounds_of, ended, decided}
use Rattle.rounds.specs.declared.Fit.{Fit}

-- ---- how far a round's counts go

module _ (P : Problem) (j a : List Float) (m : Float) where
  kept : (s : State) (o : Reasoned Trial) → (judged s o).state.iterations ≡ s.iterations
  kept s = of-try (λ t. t.state.iterations ≡ s.iterations) s (λ t. refl) (λ w. refl)

  next-kept : (n : ℕ) (next : State → Tried) → ((u : State) → (next u).state.iterations ≡ u.iterations) → (b : Bool) (u : State) → u.iterations ≡ n
      → (or_next b u next).state.iterations ≡ n
  next-kept n next rest true u e = e
  next-kept n next rest false u e = rest u ∙ e

  pub tries-kept : (k : ℕ) (s : State) → (tries_of P j a m k s).state.iterations ≡ s.iterations
  unfolding tries_of try_of
  tries-kept zero s = refl
  tries-kept (suc k) s =
      let o = trial_of P j a m s.mu s.x s.r in
      next-kept s.iterations (tries_of P j a m k) (tries-kept k) (judged s o).improved (judged s o).state (kept s o)

  next-most : (n k : ℕ) (next : State → Tried) → ((u : State) → (next u).state.tries ≤ u.tries + k) → (b : Bool) (u : State) → u.tries ≡ n + 1
      → (or_next b u next).state.tries ≤ n + suc k
  next-most n k next rest true u e = omega arith
  next-most n k next rest false u e = let h = rest u in omega arith

  tries-most : (k : ℕ) (s : State) → (tries_of P j a m k s).state.tries ≤ s.tries + k
  unfolding tries_of try_of
  tries-most zero s = omega arith
  tries-most (suc k) s =
      let o = trial_of P j a m s.mu s.x s.r in
      next-most s.tries k (tries_of P j a m k) (tries-most k) (judged s o).improved (judged s o).state (counted s o)

-- ---- what a round leads to

abbrev Flow : Type 0
Flow = ControlFlow (Result Fit Fit) Fit

module _ (P : Problem) (x r : List Float) (next : State → Outcome) where
  -- the next round, or the end, by whether the fit is within the tolerance
  abbrev leads : Bool → Result Fit Fit → Outcome
  leads w t = ended P w (tried_of x r t).improved (eqb (tried_of x r t).state.polish 0) (tried_of x r t).state next

  goes-on : (w : Bool) (t : Result Fit Fit) (u : Fit) → Continue u ≡ step_of w t → leads w t ≡ next (state_of x r u)
  goes-on true (Ok f) u e = by (eqb f.polish 0) e
    where
      by : (b : Bool) → ◌≡◌ {A = Flow} (Continue u) (cond b (Break (Ok f)) (Continue (polished_fit f))) → ended P true true b (state_of x r f) next ≡ next (state_of x r u)
      by true e = cc
      by false e = let q : u ≡ polished_fit f = cc in rw q
  goes-on true (Err f) u e = cc
  goes-on false (Ok f) u e = let q : u ≡ f = cc in rw q
  goes-on false (Err f) u e = cc

  ends : (w : Bool) (t o : Result Fit Fit) → within r ≡ w → Break o ≡ step_of w t → ended_of x o ≡ leads w t
  ends true (Ok f) o h e = by (eqb f.polish 0) e
    where
      by : (b : Bool) → ◌≡◌ {A = Flow} (Break o) (cond b (Break (Ok f)) (Continue (polished_fit f))) → ended_of x o ≡ ended P true true b (state_of x r f) next
      by true e = let q : o ≡ Ok f = cc in rw q
      by false e = cc
  ends true (Err f) o h e = let q : o ≡ Ok f = cc in rw q
  ends false (Ok f) o h e = cc
  ends false (Err f) o h e = let q : o ≡ Err f = cc in rw (q, h)

  -- polishing counts nothing
  counts : (w : Bool) (t : Result Fit Fit) (u : Fit) → Continue u ≡ step_of w t
      → (u.iterations ≡ (tried_of x r t).state.iterations) × (u.tries ≡ (tried_of x r t).state.tries)
  counts true (Ok f) u e = by (eqb f.polish 0) e
    where
      by : (b : Bool) → ◌≡◌ {A = Flow} (Continue u) (cond b (Break (Ok f)) (Continue (polished_fit f))) → (u.iterations ≡ f.iterations) × (u.tries ≡ f.tries)
      by true e = cc
      by false e = let q : u ≡ polished_fit f = cc in rw q (refl, refl)
  counts true (Err f) u e = cc
  counts false (Ok f) u e = let q : u ≡ f = cc in rw q (refl, refl)
  counts false (Err f) u e = cc

module _ (P : Problem) (J : List Float → List Float) where
  rounds-step : (k n : ℕ) (s : State) (t : Tried) → n ≡ suc k → t ≡ round_of P J s
      → rounds_of P J n s ≡ ended P (within t.state.r) t.improved (eqb t.state.polish 0) t.state (rounds_of P J k)
  unfolding rounds_of
  rounds-step k n s t e q = rw (e, q)

  rounds-none : (n : ℕ) (s : State) → n ≡ 0 → rounds_of P J n s ≡ decided P s
  unfolding rounds_of
  rounds-none n s e = rw e

  -- the tries of a round that begins with its own residuals and Jacobian
  module _ (x r x' r' j : List Float) (f : Fit) (t : Result Fit Fit) (own : r ≡ P.values x) (jac : j ≡ J x) (e : tried_of x' r' t ≡ tries_at P j (state_of x r (begun_fit f))) where
    round-is : tried_of x' r' t ≡ round_of P J (state_of x r f)
    unfolding round_of
    round-is = rw (← jac, ← own) e

    pub round_owned : r' ≡ P.values x'
    round_owned = of-tried t (ap (λ (u : Tried). u.state.r) round-is ∙ round-own P J (state_of x r f) ∙ sym (ap (λ (u : Tried). P.values u.state.x) round-is))
      where
        of-tried : (t : Result Fit Fit) → (tried_of x' r' t).state.r ≡ P.values (tried_of x' r' t).state.x → r' ≡ P.values x'
        of-tried (Ok g) h = h
        of-tried (Err g) h = h

    module _ (i : ℕ) (R : Outcome) (h : i < 200) (w : Bool) (b : w ≡ within r') (q : rounds_of P J (200 - i) (state_of x r f) ≡ R) where
      step : leads P x' r' (rounds_of P J (200 - (i + 1))) w t ≡ R
      step = of-tried t (rounds-step (200 - (i + 1)) (200 - i) (state_of x r f) (tried_of x' r' t) (omega arith) round-is)
        where
          of-tried : (t : Result Fit Fit)
              → rounds_of P J (200 - i) (state_of x r f) ≡ ended P (within (tried_of x' r' t).state.r) (tried_of x' r' t).improved (eqb (tried_of x' r' t).state.polish 0) (tried_of x' r' t).state (rounds_of P J (200 - (i + 1)))
              → leads P x' r' (rounds_of P J (200 - (i + 1))) w t ≡ R
          of-tried (Ok g) e = rw b (sym e ∙ q)
          of-tried (Err g) e = rw b (sym e ∙ q)

      pub rounds_next : (u : Fit) → Continue u ≡ step_of w t → rounds_of P J (200 - (i + 1)) (state_of x' r' u) ≡ R
      rounds_next u z = sym (goes-on P x' r' (rounds_of P J (200 - (i + 1))) w t u z) ∙ step

      pub rounds_stop : (o : Result Fit Fit) → Break o ≡ step_of w t → ended_of x' o ≡ R
      rounds_stop o z = ends P x' r' (rounds_of P J (200 - (i + 1))) w t o (sym b) z ∙ step

    pub round_counted : (w : Bool) (u : Fit) → Continue u ≡ step_of w t → (u.iterations ≡ f.iterations + 1) × (u.tries ≤ f.tries + 12)
    unfolding round_of
    round_counted w u z =
        let c = counts P x' r' (decided P) w t u z in (
          c.0 ∙ ap (λ (v : Tried). v.state.iterations) round-is ∙ tries-kept P _ _ _ 12 (begun P (state_of x r f)),
          rw (c.1, ap (λ (v : Tried). v.state.tries) round-is) (tries-most P _ _ _ 12 (begun P (state_of x r f))),
        )

  pub rounds_done : (i : ℕ) (x r : List Float) (f : Fit) (R : Outcome) → 200 ≤ i → rounds_of P J (200 - i) (state_of x r f) ≡ R → decided P (state_of x r f) ≡ R
  rounds_done i x r f R h q = sym (rounds-none (200 - i) (state_of x r f) (omega arith)) ∙ q
