-- What the calls `fit`, `freedom` and `suspects` answer and leave in each lent area, for every input.
use Rattle.std.specs.Prelude.{ℕ, ◌-◌, ◌*◌, Bool, cond, ◌||◌, List, ◌++◌, ◌≡◌, ltb, Float, length, replicate, Result, Ok, Err}
use Rattle.floats.specs.Only.{only-answer}
use Rattle.floats.specs.Ops.{zero⁺}
use Rattle.loops.specs.Numbers.{Meaning, refused, values, too_many, too_short, too_many_rows, not_converged}
use Rattle.loops.specs.Turns.{fold}
use Rattle.members.specs.Lists.{numbers_of, without_of}
use Rattle.members.specs.Movable.{indices_of}
use Rattle.members.specs.declared.Equations.{Equations}
use Rattle.normal.specs.Half.{triangle}
use Rattle.rounds.specs.Problem.{row_count}
use Rattle.rounds.specs.Promise.{zeroed}
use Rattle.rounds.specs.Solve.{Outcome, converged, failed}
use Rattle.rounds.specs.declared.Unfitted.{Unfitted}
use Rattle.rounds.specs.declared.Unfitted.TheVariants.{Failed, Refused}
use Rattle.sketch.specs.declared.Build.{Build}
use Rattle.slices.specs.declared.Refusal.{Refusal}
use Rattle.slices.specs.declared.Refusal.TheVariants.{TooMany, TooShort}
use Rattle.fit.specs.Fits.{outcome_in, freedom_of, suspects_of}
use Rattle.fit.specs.Frames.{start_in}
use Rattle.fit.specs.declared.Fitted.{Fitted}
use Rattle.fit.specs.declared.Frame.{Frame}
use Rattle.fit.specs.declared.NotFitted.{NotFitted}
use Rattle.fit.specs.declared.Uncounted.{Uncounted}

-- 9: an area shorter than 6,400
abbrev pub short : List Float → List Float → List Float → Bool
short p q r = ltb (length p) 6400 || ltb (length q) 6400 || ltb (length r) 6400

-- how many places of an area a fit takes: its Jacobian, the half of its product, and the product's working copy
abbrev pub wide : Build → Frame → List ℕ → ℕ
wide b f chosen = row_count b.equations chosen * length (indices_of f.free)

abbrev pub triangular : Build → List ℕ → ℕ
triangular b chosen = triangle (row_count b.equations chosen)

abbrev pub square : Build → List ℕ → ℕ
square b chosen = row_count b.equations chosen * row_count b.equations chosen

-- ---- `fit`

-- at the head of 80 places
abbrev pub padded : ℕ → List Float → List Float
padded n x = x ++ replicate (80 - n) zero⁺

-- only a fit that converged shows coordinates
abbrev pub fitted_by : ℕ → Outcome → Result Fitted NotFitted
fitted_by n (converged x i t) = Ok (record { x = padded n x; iterations = i; tries = t })
fitted_by n (failed w i t) = Err (record { why = Failed w; iterations = i; tries = t })

abbrev pub refusal : Result Fitted NotFitted
refusal = Err (record { why = Refused TooShort; iterations = 0; tries = 0 })

-- what an answer says in document 01's terms: the coordinates, iterations and tries of a fit that converged, or 01's number
abbrev pub fit_meaning : Result Fitted NotFitted → Meaning (List Float × ℕ × ℕ)
fit_meaning (Ok t) = values (t.x, t.iterations, t.tries)
fit_meaning (Err u) = by u.why
  where
    by : Unfitted → Meaning (List Float × ℕ × ℕ)
    by (Failed w) = refused not_converged
    by (Refused TooMany) = refused too_many
    by (Refused TooShort) = refused too_short

abbrev pub fit_meant : ℕ → Outcome → Meaning (List Float × ℕ × ℕ)
fit_meant n (converged x i t) = values (padded n x, i, t)
fit_meant n (failed w i t) = refused not_converged

pub record FitsChosen (b : Build) (f : Frame) (chosen : Equations) (p q r p' q' r' : List Float) (t : Result Fitted NotFitted) : Type 0 where
  pub answer : t ≡ cond (short p q r) refusal (fitted_by (length (start_in b f)) (outcome_in b f (numbers_of chosen.0)))
  pub meaning : fit_meaning t ≡ cond (short p q r) (refused too_short) (fit_meant (length (start_in b f)) (outcome_in b f (numbers_of chosen.0)))
  pub jacobian : p' ≡ cond (short p q r) p (zeroed (wide b f (numbers_of chosen.0)) p)
  pub product : q' ≡ cond (short p q r) q (zeroed (triangular b (numbers_of chosen.0)) q)
  pub copy : r' ≡ cond (short p q r) r (zeroed (square b (numbers_of chosen.0)) r)

-- ---- `freedom`

abbrev pub frame_over_rows : Build → Frame → Bool
frame_over_rows b f = ltb 64 (row_count b.equations (numbers_of f.equations.0))

-- 01's numbers for the call, in 01's order: 9, then 6
abbrev pub meaning_of : Result ℕ Uncounted → Meaning ℕ
meaning_of (Ok n) = values n
meaning_of (Err Uncounted.TooShort) = refused too_short
meaning_of (Err Uncounted.TooManyRows) = refused too_many_rows

abbrev pub checked : {A : Type 0} → Build → Frame → List Float → List Float → List Float → A → A → A → A
checked b f p q r nine six done = cond (short p q r) nine (cond (frame_over_rows b f) six done)

pub record Frees (b : Build) (f : Frame) (x p q r p' q' r' : List Float) (t : Result ℕ Uncounted) : Type 0 where
  pub answer : t ≡ checked b f p q r (Err Uncounted.TooShort) (Err Uncounted.TooManyRows) (Ok (freedom_of b f x))
  pub meaning : meaning_of t ≡ checked b f p q r (refused too_short) (refused too_many_rows) (values (freedom_of b f x))
  pub jacobian : p' ≡ checked b f p q r p p (zeroed (wide b f (numbers_of f.equations.0)) p)
  pub work : q' ≡ checked b f p q r q q (zeroed (wide b f (numbers_of f.equations.0)) q)
  pub basis : r' ≡ checked b f p q r r r (zeroed (length (indices_of f.free) * length (indices_of f.free)) r)

-- ---- `suspects`

-- each fit without one equation leaves the areas +0.0 where it used them
abbrev pub withouts : Build → Frame → ℕ → List ℕ
withouts b f k = without_of k (numbers_of f.equations.0)

unfoldable pub jacobian_left : Build → Frame → List Float → ℕ → List Float
jacobian_left b f p k = zeroed (wide b f (withouts b f k)) p

unfoldable pub product_left : Build → Frame → List Float → ℕ → List Float
product_left b f q k = zeroed (triangular b (withouts b f k)) q

unfoldable pub copy_left : Build → Frame → List Float → ℕ → List Float
copy_left b f r k = zeroed (square b (withouts b f k)) r

-- 9 where an area is too short, or the marks
abbrev pub marked_of : Result (List Bool) Refusal → Meaning (List Bool)
marked_of (Ok marks) = values marks
marked_of (Err TooMany) = refused too_many
marked_of (Err TooShort) = refused too_short

pub record Marks (b : Build) (f : Frame) (p q r p' q' r' : List Float) (t : Result (List Bool) Refusal) : Type 0 where
  pub answer : t ≡ cond (short p q r) (Err TooShort) (Ok (suspects_of b f))
  pub meaning : marked_of t ≡ cond (short p q r) (refused too_short) (values (suspects_of b f))
  pub jacobian : p' ≡ cond (short p q r) p (fold (jacobian_left b f) p (numbers_of f.equations.0))
  pub product : q' ≡ cond (short p q r) q (fold (product_left b f) q (numbers_of f.equations.0))
  pub copy : r' ≡ cond (short p q r) r (fold (copy_left b f) r (numbers_of f.equations.0))

-- ---- no second answer, and no other content of a lent place, meets a promise

module _ {b : Build} {f : Frame} {p q r p₁ q₁ r₁ p₂ q₂ r₂ : List Float} where
  pub only-fit : {chosen : Equations} {t u : Result Fitted NotFitted} → FitsChosen b f chosen p q r p₁ q₁ r₁ t → FitsChosen b f chosen p q r p₂ q₂ r₂ u → (t ≡ u) × (p₁ ≡ p₂) × (q₁ ≡ q₂) × (r₁ ≡ r₂)
  only-fit m n =
      (only-answer m.answer n.answer, only-answer m.jacobian n.jacobian, only-answer m.product n.product, only-answer m.copy n.copy)

  pub only-freedom : {x : List Float} {t u : Result ℕ Uncounted} → Frees b f x p q r p₁ q₁ r₁ t → Frees b f x p q r p₂ q₂ r₂ u → (t ≡ u) × (p₁ ≡ p₂) × (q₁ ≡ q₂) × (r₁ ≡ r₂)
  only-freedom m n =
      (only-answer m.answer n.answer, only-answer m.jacobian n.jacobian, only-answer m.work n.work, only-answer m.basis n.basis)

  pub only-marks : {t u : Result (List Bool) Refusal} → Marks b f p q r p₁ q₁ r₁ t → Marks b f p q r p₂ q₂ r₂ u → (t ≡ u) × (p₁ ≡ p₂) × (q₁ ≡ q₂) × (r₁ ≡ r₂)
  only-marks m n =
      (only-answer m.answer n.answer, only-answer m.jacobian n.jacobian, only-answer m.product n.product, only-answer m.copy n.copy)
