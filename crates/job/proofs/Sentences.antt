-- `fitted-means-fitted`, `failure-named` and `areas-after` (specs/Sentences.antt). Assumes nothing.
use Prim.Native.Nat.{ℕ}
use mathlib.Core.Bool.{Bool, true, false}
use mathlib.Core.List.{List}
use mathlib.Core.Logic.{◌⊎◌, inl, inr, ◌≢◌}
use mathlib.Core.Path.{◌≡◌, refl, ap, ◌∙◌}
use native.Mathlib.Omega.{arith}
use lib.Ieee.{Float}
use lib.ListN.{length}
use Rattle.std.specs.Prelude.{Ok}
use Rattle.answer.specs.Endings.{failed_of}
use Rattle.answer.specs.declared.GroupFit.{GroupFit}
use Rattle.fit.proofs.MeansFitted.{fitted-holds}
use Rattle.fit.proofs.Lowest.{lowest-is}
use Rattle.fit.proofs.Reasons.{reason-exactly, reason-tells}
use Rattle.fit.proofs.SuspectsTheorem.{suspects-sized, suspects-exactly}
use Rattle.fit.specs.Fits.{converges}
use Rattle.fit.specs.Groups.{frame_in, outcome_at, suspects_at, lowest_at}
use Rattle.groups.proofs.Theorem.{groups-are-chains}
use Rattle.groups.specs.Listed.{grouping_of}
use Rattle.rounds.specs.Promise.{zeroed}
use Rattle.rounds.specs.Solve.{Outcome, converged, failed}
use Rattle.sketch.proofs.Given as goal
use Rattle.sketch.specs.Check.{Checked, check_of, ordered, over_bound, out_of_bounds, refers_to_nothing, over_rows}
use Rattle.sketch.specs.declared.Build.{Build}
use Rattle.job.specs.Given.{Sound, LowestFailing}
use Rattle.job.specs.Groups.{Result, fits, fails, fit_of}
use Rattle.job.specs.Promise.{no_room, in_order, verdict_of, answer_after, area_after, unfit, first_row}
use Rattle.job.specs.Sentences.{Failing, FittedMeansFitted, FailureNamed, AreasAfter}
use Rattle.job.proofs.Theorem.{given-exactly, lowest-fails, fails-some}

outcome-of : (o : Outcome) → converges o ≡ true → (x : List Float) × (i : ℕ) × (t : ℕ) × (o ≡ converged x i t)
outcome-of (converged x i t) h = (x, i, t, refl)
outcome-of (failed w i t) h = let z : ◌≡◌ {A = ℕ} 0 1 = cc in absurd (omega arith)

failure-of : (R : Result) → unfit R ≡ true → (j : ℕ) × (u : GroupFit) × (R ≡ fails j u)
failure-of (fits d) h = let z : ◌≡◌ {A = ℕ} 0 1 = cc in absurd (omega arith)
failure-of (fails j u) h = (j, u, refl)

module _ (b : Build) where
  failing : (j : ℕ) (u : GroupFit) → LowestFailing b j u → Failing b j
  failing j u l = record { group = l.group; unfitted = rw l.outcome; earlier = l.earlier }

  answer-is : (v : Checked) (j : ℕ) (u : GroupFit) → v ≡ Ok tt → fit_of b ≡ fails j u → answer_after b v ≡ failed_of u (suspects_at b (grouping_of b) j)
  answer-is v j u e f = rw (e, f)

  -- by the rows in 01's order
  left : (a : List Float) (o n u m r f : Bool) → (first_row o n u m r f ≡ 0) ⊎ (first_row o n u m r f ≡ 7)
      → area_after a (in_order o n (ordered o u m r)) ≡ zeroed 6400 a
  left a true n u m r f (inl h) = absurd (omega arith)
  left a true n u m r f (inr h) = absurd (omega arith)
  left a false true u m r f (inl h) = absurd (omega arith)
  left a false true u m r f (inr h) = absurd (omega arith)
  left a false false true m r f (inl h) = absurd (omega arith)
  left a false false true m r f (inr h) = absurd (omega arith)
  left a false false false true r f (inl h) = absurd (omega arith)
  left a false false false true r f (inr h) = absurd (omega arith)
  left a false false false false true f (inl h) = absurd (omega arith)
  left a false false false false true f (inr h) = absurd (omega arith)
  left a false false false false false f h = refl

  kept : (a : List Float) (o n u m r f : Bool) → first_row o n u m r f ≢ 0 → first_row o n u m r f ≢ 7
      → area_after a (in_order o n (ordered o u m r)) ≡ a
  kept a true n u m r f h k = refl
  kept a false true u m r f h k = refl
  kept a false false true m r f h k = refl
  kept a false false false true r f h k = refl
  kept a false false false false true f h k = refl
  kept a false false false false false true h k = absurd (k refl)
  kept a false false false false false false h k = absurd (h refl)

  pub areas-after : AreasAfter b
  unfolding verdict_of check_of
  areas-after out p q r area =
      let n = no_room b (length out) (length p) (length q) (length r) in
      let f = unfit (fit_of b) in
      (left area (over_bound b) n (out_of_bounds b) (refers_to_nothing b) (over_rows b) f, kept area (over_bound b) n (out_of_bounds b) (refers_to_nothing b) (over_rows b) f)

  module _ (out p q r : ℕ) where
    passes : Sound b out p q r → check_of b ≡ Ok tt
    passes s = (goal.given-exactly b).passes.1 (s.counts, s.numbers, s.items, s.rows)

    pub verdict-passes : Sound b out p q r → verdict_of b out p q r ≡ Ok tt
    unfolding verdict_of
    verdict-passes s = rw (s.counts, s.room) (passes s)

    pub fitted-means-fitted : FittedMeansFitted b out p q r
    fitted-means-fitted h k point touches =
        let s = (given-exactly b out p q r).fitted.0 h in
        let c = groups-are-chains b (passes s.0) in
        let at = c.point-listed point (k, touches) in
        let m = c.equation-listed k point at.0 touches at.2 in
        let o = outcome-of (outcome_at b (grouping_of b) at.0) (s.1 at.0 at.1) in
        record {
          group = at.0;
          x = o.0;
          iterations = o.1;
          tries = o.2;
          listed = m;
          fit = o.3;
          within = fitted-holds b (grouping_of b) at.0 o.0 o.1 o.2 o.3 k m;
        }

    pub failure-named : FailureNamed b out p q r
    failure-named h =
        let s = (given-exactly b out p q r).seven.0 h in
        let f = failure-of (fit_of b) (fails-some b s.1) in
        let l = lowest-fails b f.0 f.1 f.2 in
        let g = failing f.0 f.1 l in
        record {
          group = f.0;
          failing = g;
          lowest = lowest_at b (grouping_of b) f.0;
          is-lowest = lowest-is b f.0 (passes s.0) g.group;
          iterations = l.iterations;
          tries = l.tries;
          why = l.why;
          outcome = l.outcome;
          reason = (reason-exactly b (grouping_of b) f.0 l.why l.iterations l.tries).0 l.outcome;
          tells = reason-tells b (grouping_of b) f.0 l.why l.iterations l.tries l.outcome;
          marks = suspects_at b (grouping_of b) f.0;
          answer = answer-is (verdict_of b out p q r) f.0 f.1 (verdict-passes s.0) f.2 ∙ ap (λ u. failed_of u (suspects_at b (grouping_of b) f.0)) l.answered;
          sized = suspects-sized b (frame_in b (grouping_of b) f.0);
          exactly = suspects-exactly b (grouping_of b) f.0;
        }
