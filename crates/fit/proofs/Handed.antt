-- What a fit hands out is a fit or nothing. A failed fit's answer has no coordinates, whatever its trials were; and where the answer
-- is that it converged, every residual of the chosen equations at its coordinates is within the tolerance. Assumes nothing.
use Prim.Native.Nat.{ℕ}
use mathlib.Core.Bool.{Bool, true, false, cond, true≢false}
use mathlib.Core.List.{List}
use mathlib.Core.Logic.{◌⊎◌, inl, inr}
use mathlib.Core.Path.{◌≡◌, refl, sym, ◌∙◌}
use lib.Ieee.{Float}
use lib.ListN.{length}
use Rattle.std.specs.Prelude.{Result, Ok, Err}
use Rattle.members.specs.Lists.{numbers_of}
use Rattle.members.specs.declared.Equations.{Equations}
use Rattle.rounds.proofs.Holding.{fit-holds}
use Rattle.rounds.specs.Problem.{values_at}
use Rattle.rounds.specs.Solve.{Outcome, converged, failed, within}
use Rattle.sketch.specs.declared.Build.{Build}
use Rattle.fit.specs.Fits.{outcome_in, converges}
use Rattle.fit.specs.Promise.{FitsChosen, short, refusal, padded, fitted_by}
use Rattle.fit.specs.Frames.{start_in}
use Rattle.fit.specs.declared.Fitted.{Fitted}
use Rattle.fit.specs.declared.Frame.{Frame}
use Rattle.fit.specs.declared.NotFitted.{NotFitted}

module _ (b : Build) (f : Frame) (chosen : Equations) where
  -- coordinates at the head of the answer's 80 places, at which the chosen equations hold
  pub record ShowsFit (t : Fitted) : Type 0 where
    pub x : List Float
    pub shown : t.x ≡ padded (length (start_in b f)) x
    pub holds : within (values_at b.equations b.lines f.places (numbers_of chosen.0) x) ≡ true

  bare : (s : Bool) (n : ℕ) (o : Outcome) → (s ≡ true) ⊎ (converges o ≡ false) → (u : NotFitted) × (cond s refusal (fitted_by n o) ≡ Err u)
  bare true n o h = (_, refl)
  bare false n (converged x i t) (inl h) = absurd (true≢false (sym h))
  bare false n (converged x i t) (inr h) = absurd (true≢false h)
  bare false n (failed w i t) h = (_, refl)

  held : (s : Bool) (o : Outcome) (v : Fitted) → outcome_in b f (numbers_of chosen.0) ≡ o → cond s refusal (fitted_by (length (start_in b f)) o) ≡ Ok v → ShowsFit v
  held true o v e h = cc
  held false (failed w i t) v e h = cc
  held false (converged x i t) v e h =
      let same : record { x = padded (length (start_in b f)) x; iterations = i; tries = t } ≡ v = cc in
      record { x = x; shown = rw (← same); holds = fit-holds _ _ (start_in b f) x i t e }

  module _ {p q r p' q' r' : List Float} {t : Result Fitted NotFitted} (made : FitsChosen b f chosen p q r p' q' r' t) where
    -- and an answer that is no fit has no place for coordinates
    pub no-coordinates : (short p q r ≡ true) ⊎ (converges (outcome_in b f (numbers_of chosen.0)) ≡ false) → (u : NotFitted) × (t ≡ Err u)
    no-coordinates h =
        let u = bare (short p q r) (length (start_in b f)) (outcome_in b f (numbers_of chosen.0)) h in
        (u.0, made.answer ∙ u.1)

    pub coordinates-hold : (v : Fitted) → t ≡ Ok v → ShowsFit v
    coordinates-hold v e = held (short p q r) (outcome_in b f (numbers_of chosen.0)) v refl (sym made.answer ∙ e)
