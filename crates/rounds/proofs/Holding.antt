-- What is handed out as a fit is one (specs/Holds.antt): each try and each round keeps the residuals those of the coordinates. Assumes nothing.
use Prim.Native.Nat.{ℕ, zero, suc}
use mathlib.Core.Bool.{Bool, true, false, cond}
use mathlib.Core.List.{List}
use mathlib.Core.Path.{◌≡◌, refl, sym, ap, subst, ◌∙◌}
use lib.Dec.{eqb}
use lib.Ieee.{Float}
use lib.ListN.{length}
use Rattle.normal.specs.Normal.{product_of, diag_max_of, damped_of, moved_of}
use Rattle.solver.specs.Reasons.{Reasoned, some, no_pivot, not_finite, on_some, reasoned_of}
use Rattle.rounds.specs.declared.Reason.TheVariants.{NotLess}
use Rattle.rounds.specs.Holds.{FitHolds}
use Rattle.rounds.specs.Solve.{Problem, State, Tried, Outcome, converged, failed, within, better, taken, harder, judged, or_next, trial_at, trial_of, try_of, tries_of, begun, round_of, polished, decided, ended, rounds_of, start_of, opened, solve_of}

module _ (P : Problem) (jacobian : List Float → List Float) where
  -- the residuals that the fit goes by are those of its coordinates
  abbrev Own : State → Type 0
  Own s = s.r ≡ P.values s.x

  judged-own : (s : State) (f : List Float → List Float) (o : Reasoned (List Float)) → Own s → Own (judged s (on_some o (λ y. some (trial_at P (f y))))).state
  judged-own s f (no_pivot c) h = h
  judged-own s f not_finite h = h
  judged-own s f (some y) h = pick (better s (trial_at P (f y)))
    where
      pick : (b : Bool) → Own (cond {A = Tried} b (record { improved = true; state = taken s (trial_at P (f y)) }) (record { improved = false; state = harder NotLess s })).state
      pick true = refl
      pick false = h

  try-own : (j a : List Float) (m : Float) (s : State) → Own s → Own (try_of P j a m s).state
  unfolding try_of trial_of
  try-own j a m s h =
      judged-own s (λ y. moved_of P.rows (length P.free) j y P.free s.x)
      (reasoned_of P.rows (damped_of P.rows s.mu m a) s.r) h

  next-own : (b : Bool) (s : State) (next : State → Tried) → ((u : State) → Own u → Own (next u).state) → Own s → Own (or_next b s next).state
  next-own true s next keeps h = h
  next-own false s next keeps h = keeps s h

  tries-own : (j a : List Float) (m : Float) (k : ℕ) (s : State) → Own s → Own (tries_of P j a m k s).state
  unfolding tries_of
  tries-own j a m zero s h = h
  tries-own j a m (suc k) s h =
      next-own (try_of P j a m s).improved (try_of P j a m s).state (tries_of P j a m k) (tries-own j a m k) (try-own j a m s h)

  pub round-own : (s : State) → Own (round_of P jacobian s).state
  unfolding round_of
  round-own s =
      let j = jacobian s.x in
      let a = product_of P.rows (length P.free) j in
      tries-own j a (diag_max_of P.rows a) 12 (begun P s) refl

  -- a fit that came to o is one
  Sound : Outcome → Type 0
  Sound (converged x i t) = within (P.values x) ≡ true
  Sound (failed w i t) = Unit {0}

  done-sound : (s : State) → Own s → within s.r ≡ true → Sound (converged s.x s.iterations s.tries)
  unfolding Sound
  done-sound s h w = ap within (sym h) ∙ w

  decided-sound : (s : State) → Own s → Sound (decided P s)
  unfolding Sound
  decided-sound s h = pick (within s.r) refl
    where
      pick : (b : Bool) → within s.r ≡ b → Sound (cond b (converged s.x s.iterations s.tries) (failed s.why s.iterations s.tries))
      pick true w = ap within (sym h) ∙ w
      pick false w = tt

  ended-sound : (w i p : Bool) (s : State) (next : State → Outcome) → within s.r ≡ w → Own s → ((u : State) → Own u → Sound (next u))
      → Sound (ended P w i p s next)
  ended-sound true false p s next w h keeps = done-sound s h w
  ended-sound true true true s next w h keeps = done-sound s h w
  ended-sound true true false s next w h keeps = keeps (polished P s) h
  ended-sound false true p s next w h keeps = keeps s h
  ended-sound false false p s next w h keeps = decided-sound s h

  rounds-sound : (k : ℕ) (s : State) → Own s → Sound (rounds_of P jacobian k s)
  unfolding rounds_of
  rounds-sound zero s h = decided-sound s h
  rounds-sound (suc k) s h =
      let t = round_of P jacobian s in
      ended-sound (within t.state.r) t.improved (eqb t.state.polish 0) t.state (rounds_of P jacobian k) refl (round-own s) (rounds-sound k)

  opened-sound : (w f : Bool) (x : List Float) → within (P.values x) ≡ w → Sound (opened P jacobian w f x)
  unfolding Sound
  opened-sound true f x w = w
  opened-sound false true x w = tt
  opened-sound false false x w = rounds-sound 200 (start_of P x) refl

  pub fit-holds : FitHolds P jacobian
  unfolding solve_of Sound
  fit-holds x x' i t e = subst Sound e (opened-sound (within (P.values x)) (eqb (length P.free) 0) x refl)
