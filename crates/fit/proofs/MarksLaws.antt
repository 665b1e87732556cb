-- From what the calls of `suspects` promise to its definition. Assumes nothing.
use Prim.Native.Nat.{ℕ}
use mathlib.Core.Bool.{Bool, true, false}
use mathlib.Core.List.{List}
use mathlib.Core.Path.{◌≡◌, refl, ap, ◌∙◌}
use lib.Ieee.{Float}
use lib.ListN.{length, set}
use Rattle.std.specs.Prelude.{Result, Ok, Err}
use Rattle.std.specs.Result.{is_ok}
use Rattle.loops.specs.Turns.{fold}
use Rattle.members.specs.Lists.{Lists, numbers_of}
use Rattle.members.proofs.Readings.{numbers-are}
use Rattle.members.specs.declared.Equations.{Equations}
use Rattle.rounds.specs.Promise.{zeroed}
use Rattle.rounds.specs.Solve.{Outcome, converged, failed}
use Rattle.sketch.specs.declared.Build.{Build}
use Rattle.slices.specs.declared.Refusal.TheVariants.{TooShort}
use Rattle.fit.specs.Fits.{outcome_in, converges, suspect, mark, suspects_of}
use Rattle.fit.specs.Promise.{fitted_by, short, wide, triangular, square, FitsChosen, withouts, jacobian_left, product_left, copy_left, Marks}
use Rattle.fit.specs.Frames.{start_in}
use Rattle.fit.specs.declared.Fitted.{Fitted}
use Rattle.fit.specs.declared.Frame.{Frame}
use Rattle.fit.specs.declared.NotFitted.{NotFitted}

-- ---- the fit without one equation

ended_so : (n : ℕ) (o : Outcome) → is_ok (fitted_by n o) ≡ converges o
ended_so n (converged x i t) = refl
ended_so n (failed w i t) = refl

module _ (b : Build) (f : Frame) (k : ℕ) (p q r p' q' r' : List Float) (chosen : Equations) (t : Result Fitted NotFitted) (s : Bool) (room : short p q r ≡ false)
    (l : Lists chosen.0 (withouts b f k)) (h : FitsChosen b f chosen p q r p' q' r' t) (e : s ≡ is_ok t) where
  rest : numbers_of chosen.0 ≡ withouts b f k
  rest = numbers-are chosen.0 (withouts b f k) l

  came-to : t ≡ fitted_by (length (start_in b f)) (outcome_in b f (withouts b f k))
  came-to = (rw room at h.answer) ∙ ap (λ ks. fitted_by (length (start_in b f)) (outcome_in b f ks)) rest

  pub marked : (marks marks' : List Bool) → marks' ≡ set marks k s → marks' ≡ mark b f marks k
  unfolding mark suspect
  marked marks marks' m = m ∙ ap (set marks k) (e ∙ ap (λ u. is_ok u) came-to ∙ ended_so (length (start_in b f)) (outcome_in b f (withouts b f k)))

  pub jacobian-next : p' ≡ jacobian_left b f p k
  unfolding jacobian_left
  jacobian-next = (rw room at h.jacobian) ∙ ap (λ ks. zeroed (wide b f ks) p) rest

  pub product-next : q' ≡ product_left b f q k
  unfolding product_left
  product-next = (rw room at h.product) ∙ ap (λ ks. zeroed (triangular b ks) q) rest

  pub copy-next : r' ≡ copy_left b f r k
  unfolding copy_left
  copy-next = (rw room at h.copy) ∙ ap (λ ks. zeroed (square b ks) r) rest

-- ---- the loop over the equations

pub still-long : (p q r p' q' r' : List Float) → length p' ≡ length p → length q' ≡ length q → length r' ≡ length r → short p q r ≡ false → short p' q' r' ≡ false
still-long p q r p' q' r' ep eq er h = rw (ep, eq, er) h

-- ---- the whole

module _ (b : Build) (f : Frame) (p q r : List Float) where
  pub unmarked : short p q r ≡ true → Marks b f p q r p q r (Err TooShort)
  unmarked h = record { answer = rw h; meaning = rw h; jacobian = rw h; product = rw h; copy = rw h }

  pub marks-all : (p' q' r' : List Float) (t : List Bool) → short p q r ≡ false → t ≡ suspects_of b f → p' ≡ fold (jacobian_left b f) p (numbers_of f.equations.0)
      → q' ≡ fold (product_left b f) q (numbers_of f.equations.0) → r' ≡ fold (copy_left b f) r (numbers_of f.equations.0) → Marks b f p q r p' q' r' (Ok t)
  marks-all p' q' r' t h u ep eq er = record { answer = rw (h, u); meaning = rw (h, u); jacobian = rw h ep; product = rw h eq; copy = rw h er }
