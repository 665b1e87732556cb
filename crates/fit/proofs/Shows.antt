-- From what the calls of a fit promise to its own promise. Assumes nothing.
use Prim.Native.Nat.{ℕ, ◌-◌, ◌*◌, ◌≤◌}
use mathlib.Core.Bool.{Bool, true, false, cond}
use mathlib.Core.List.{List, ◌++◌}
use mathlib.Core.Path.{◌≡◌, refl, sym, ap, ◌∙◌}
use native.Mathlib.Omega.{arith}
use borrow.Author.Tests.{le-ltb}
use lib.Ieee.{Float}
use lib.ListN.{length, take, drop, replicate, length-map, length-replicate}
use lib.Seq.{take_at, drop_at}
use Rattle.floats.specs.Ops.{zero⁺}
use Rattle.loops.specs.Numbers.{refused, too_short}
use Rattle.members.specs.Lists.{numbers_of}
use Rattle.members.specs.Movable.{points_at, indices_of}
use Rattle.members.proofs.Readings.{start-length}
use Rattle.members.specs.Scale as scale
use Rattle.fit.proofs.Begun.{begun, fewer}
use Rattle.members.specs.declared.Equations.{Equations}
use Rattle.rounds.specs.Promise.{Solves, outcome_of, answered_by, coordinates_of, zeroed, saying, too_many}
use Rattle.rounds.specs.declared.Unfitted.{Unfitted}
use Rattle.rounds.specs.declared.Unfitted.TheVariants.{Refused}
use Rattle.slices.specs.declared.Refusal.TheVariants.{TooShort}
use Rattle.std.specs.Prelude.{Result, Ok, Err}
use Rattle.normal.specs.Half.{triangle}
use Rattle.rounds.specs.Problem.{row_count}
use Rattle.rounds.specs.Solve.{Outcome, converged, failed}
use Rattle.rounds.specs.declared.Solved.{Solved}
use Rattle.sketch.specs.declared.Active.{Active}
use Rattle.sketch.specs.declared.Build.{Build}
use Rattle.sketch.specs.declared.Line.{Line}
use Rattle.fit.specs.Fits.{outcome_in}
use Rattle.fit.specs.Promise.{FitsChosen, fitted_by, refusal, short, fit_meaning, fit_meant}
use Rattle.fit.specs.Frames.{start_in}
use Rattle.fit.specs.declared.Fitted.{Fitted}
use Rattle.fit.specs.declared.NotFitted.{NotFitted}
use Rattle.fit.specs.declared.Frame.{Frame}

-- only a fit that converged shows coordinates
abbrev pub shown_of : Solved → List Float → Result Fitted NotFitted
shown_of s x = by s.ending
  where
    by : Result (Unit {0}) Unfitted → Result Fitted NotFitted
    by (Ok v) = Ok (record { x = x; iterations = s.iterations; tries = s.tries })
    by (Err w) = Err (record { why = w; iterations = s.iterations; tries = s.tries })

-- what is shown of an outcome
shown-by : (n : ℕ) (o : Outcome) (s : Solved) (x x' rest : List Float) (t : Result Fitted NotFitted) → s ≡ answered_by o → x' ≡ coordinates_of x o → rest ≡ replicate (80 - n) zero⁺
    → t ≡ shown_of s (x' ++ rest) → t ≡ fitted_by n o
shown-by n (converged y i k) s x x' rest t es ex er et = et ∙ rw (es, ex, er)
shown-by n (failed w i k) s x x' rest t es ex er et = et ∙ rw es

-- and what it means
meaning-is : (v : Bool) (n : ℕ) (o : Outcome) → fit_meaning (cond v refusal (fitted_by n o)) ≡ cond v (refused too_short) (fit_meant n o)
meaning-is true n o = refl
meaning-is false n (converged x i t) = refl
meaning-is false n (failed w i t) = refl

-- elimination of the bounds that a frame keeps
module _ (es : List Active) (ls : List Line) (places columns chosen free : List ℕ) (x p q r x' p' q' r' : List Float) (s : Solved)
    (few : length chosen ≤ 40) (narrow : length free ≤ 80) (long : length x ≤ 80) (e : Solves es ls places columns chosen free x p q r x' p' q' r' s) where
  none : too_many es ls places columns chosen free x p q r ≡ false
  none = rw (le-ltb 40 (length chosen) few, le-ltb 80 (length free) narrow, le-ltb 80 (length x) long)

  answer : s ≡ cond (short p q r) (saying (Err (Refused TooShort)) 0 0) (answered_by (outcome_of es ls places columns chosen free x))
  answer = e.answer ∙ rw none

  coordinates : x' ≡ cond (short p q r) x (coordinates_of x (outcome_of es ls places columns chosen free x))
  coordinates = e.coordinates ∙ rw none

  area-p : p' ≡ cond (short p q r) p (zeroed (row_count es chosen * length free) p)
  area-p = e.jacobian ∙ rw none

  area-q : q' ≡ cond (short p q r) q (zeroed (triangle (row_count es chosen)) q)
  area-q = e.product ∙ rw none

  area-r : r' ≡ cond (short p q r) r (zeroed (row_count es chosen * row_count es chosen) r)
  area-r = e.copy ∙ rw none

  shown : (n : ℕ) (rest : List Float) (t : Result Fitted NotFitted) → rest ≡ replicate (80 - n) zero⁺ → t ≡ shown_of s (x' ++ rest)
      → t ≡ cond (short p q r) refusal (fitted_by n (outcome_of es ls places columns chosen free x))
  shown n rest t er et = pick (short p q r) answer coordinates
    where
      pick : (v : Bool) → s ≡ cond v (saying (Err (Refused TooShort)) 0 0) (answered_by (outcome_of es ls places columns chosen free x))
          → x' ≡ cond v x (coordinates_of x (outcome_of es ls places columns chosen free x))
          → t ≡ cond v refusal (fitted_by n (outcome_of es ls places columns chosen free x))
      pick true ea ex = et ∙ rw ea
      pick false ea ex = shown-by n (outcome_of es ls places columns chosen free x) s x x' rest t ea ex er et

module _ (b : Build) (f : Frame) (chosen : Equations) (p q r p' q' r' x x' : List Float) (k₁ : ℕ) (s : Solved) (t : Result Fitted NotFitted) where
  pub fit_is : length (numbers_of f.points.0) ≤ 40 → length (numbers_of chosen.0) ≤ 40 → length (indices_of f.free) ≤ 80 → k₁ ≡ length (numbers_of f.points.0)
      → x ≡ scale.start_in b.centre b.size (points_at b.points (numbers_of f.points.0)) (replicate 80 zero⁺)
      → Solves b.equations b.lines f.places f.columns (numbers_of chosen.0) (indices_of f.free) (take (2 * k₁) x) p q r x' p' q' r' s
      → t ≡ shown_of s (x' ++ drop (2 * k₁) x) → FitsChosen b f chosen p q r p' q' r' t
  fit_is l few narrow e₁ ex es et =
      let ps = points_at b.points (numbers_of f.points.0) in
      let count : length ps ≡ k₁ = length-map (numbers_of f.points.0) _ ∙ sym e₁ in
      let size : length (start_in b f) ≡ 2 * k₁ = start-length b.centre b.size ps ∙ rw count in
      let room : 2 * length ps ≤ length (replicate 80 zero⁺) = rw (count, length-replicate 80 zero⁺) (omega (arith, e₁)) in
      let begins : x ≡ start_in b f ++ drop (2 * length ps) (replicate 80 zero⁺) = begun b.centre b.size ps x ex room in
      let head : take (2 * k₁) x ≡ start_in b f = rw begins (take_at (start_in b f) (drop (2 * length ps) (replicate 80 zero⁺)) (2 * k₁) size) in
      let same : 2 * length ps ≡ length (start_in b f) = sym (start-length b.centre b.size ps) in
      let tail : drop (2 * k₁) x ≡ replicate (80 - length (start_in b f)) zero⁺ =
      ap (drop (2 * k₁)) begins ∙ drop_at (start_in b f) (drop (2 * length ps) (replicate 80 zero⁺)) (2 * k₁) size ∙ fewer 80 (2 * length ps) zero⁺ ∙ rw same in
      let long : length (start_in b f) ≤ 80 = rw size (omega (arith, e₁)) in
      let solved : Solves b.equations b.lines f.places f.columns (numbers_of chosen.0) (indices_of f.free) (start_in b f) p q r x' p' q' r' s = rw head at es in
      carried solved few narrow long tail et
    where
      carried : Solves b.equations b.lines f.places f.columns (numbers_of chosen.0) (indices_of f.free) (start_in b f) p q r x' p' q' r' s
          → length (numbers_of chosen.0) ≤ 40 → length (indices_of f.free) ≤ 80 → length (start_in b f) ≤ 80 → drop (2 * k₁) x ≡ replicate (80 - length (start_in b f)) zero⁺
          → t ≡ shown_of s (x' ++ drop (2 * k₁) x) → FitsChosen b f chosen p q r p' q' r' t
      carried e few narrow long er et =
          let a = shown b.equations b.lines f.places f.columns (numbers_of chosen.0) (indices_of f.free) (start_in b f) p q r x' p' q' r' s few narrow long e (length (start_in b f)) (drop (2 * k₁) x) t er et in
          record {
            answer = a;
            meaning = ap fit_meaning a ∙ meaning-is (short p q r) (length (start_in b f)) (outcome_in b f (numbers_of chosen.0));
            jacobian = area-p b.equations b.lines f.places f.columns (numbers_of chosen.0) (indices_of f.free) (start_in b f) p q r x' p' q' r' s few narrow long e;
            product = area-q b.equations b.lines f.places f.columns (numbers_of chosen.0) (indices_of f.free) (start_in b f) p q r x' p' q' r' s few narrow long e;
            copy = area-r b.equations b.lines f.places f.columns (numbers_of chosen.0) (indices_of f.free) (start_in b f) p q r x' p' q' r' s few narrow long e;
          }
