-- `given-exactly`, `lowest-fails` and `hands-out-nothing` (specs/Given.antt). Assumes nothing.
use Prim.Native.Nat.{ℕ, zero, suc, ◌+◌, ◌*◌, ◌≤◌, ◌<◌}
use mathlib.Core.Bool.{Bool, true, false, ◌||◌}
use mathlib.Core.List.{List}
use mathlib.Core.Logic.{◌↔◌, ◌⊎◌, inl, inr, ◌≢◌}
use mathlib.Core.Path.{◌≡◌, refl, sym, ◌∙◌}
use native.Mathlib.Decide.{dec_lt}
use native.Mathlib.Omega.{arith}
use borrow.Author.Tests.{lt-ltb, ltb-true}
use lib.Dec.{ltb}
use lib.Ieee.{Float}
use lib.ListN.{length}
use Rattle.answer.specs.declared.GroupFit.{GroupFit}
use Rattle.fit.specs.Fits.{converges}
use Rattle.fit.specs.Promise.{padded}
use Rattle.fit.specs.Frames.{start_in}
use Rattle.fit.specs.Groups.{outcome_at, frame_in}
use Rattle.groups.specs.Listed.{grouping_of}
use Rattle.groups.specs.declared.Grouping.{Grouping}
use Rattle.rounds.specs.Solve.{Outcome, converged, failed}
use Rattle.rounds.specs.declared.Reason.{Reason}
use Rattle.sketch.specs.Check.{check_of, ordered, over_bound, out_of_bounds, refers_to_nothing, over_rows}
use Rattle.sketch.specs.Rows.{rows_of_build}
use Rattle.sketch.specs.declared.Build.{Build}
use Rattle.job.specs.Given.{TooMany, TooShort, SomeFails, AllFit, Sound, GivenExactly, LowestFails, HandsOutNothing}
use Rattle.job.specs.Groups.{Result, fits, fails, taken_of, failing_of, step_of, groups_from, group_count, begin, fit_of, output_by}
use Rattle.job.specs.Promise.{no_room, in_order, verdict_of, output_after, unfit, first_row}
use Rattle.job.specs.declared.Doing.{Doing}
use Rattle.job.proofs.Few.{all-counted}

-- ---- the groups: the first that fails, or all fit

module _ (b : Build) (gr : Grouping) where
  pub none_left : (g : ℕ) (d : Doing) → groups_from b gr zero g d ≡ fits d
  unfolding groups_from
  none_left g d = refl

  pub goes_on : (k g : ℕ) (d : Doing) (x : List Float) (i t : ℕ) → outcome_at b gr g ≡ converged x i t
      → groups_from b gr (suc k) g d ≡ groups_from b gr k (g + 1) (taken_of b (frame_in b gr g) g (padded (length (start_in b (frame_in b gr g))) x) i t d)
  unfolding groups_from step_of
  goes_on k g d x i t e = rw e

  pub stops : (k g : ℕ) (d : Doing) (w : Reason) (i t : ℕ) → outcome_at b gr g ≡ failed w i t → groups_from b gr (suc k) g d ≡ fails g (failing_of (frame_in b gr g) w i t)
  unfolding groups_from step_of
  stops k g d w i t e = rw e

  -- group j, among those from lo up to hi, fails, u is answered of it, and all before it converge
  record First (lo hi j : ℕ) (u : GroupFit) : Type 0 where
    from : lo ≤ j
    below : j < hi
    why : Reason
    iterations : ℕ
    tries : ℕ
    outcome : outcome_at b gr j ≡ failed why iterations tries
    answered : u ≡ failing_of (frame_in b gr j) why iterations tries
    earlier : (l : ℕ) → lo ≤ l → l < j → converges (outcome_at b gr l) ≡ true

  first : (k g : ℕ) (d : Doing) (j : ℕ) (u : GroupFit) → groups_from b gr k g d ≡ fails j u → First g (g + k) j u
  first zero g d j u h =
      let z : fits d ≡ fails j u = sym (none_left g d) ∙ h in
      let no : ◌≡◌ {A = ℕ} 0 1 = cc in
      absurd (omega arith)
  first (suc k) g d j u h = go (outcome_at b gr g) refl (λ d'. first k (g + 1) d' j u)
    where
      earlier : (l : ℕ) → g ≤ l → l < j → converges (outcome_at b gr g) ≡ true → First (g + 1) (g + 1 + k) j u → Dec (g < l) → converges (outcome_at b gr l) ≡ true
      earlier l p q c s (yes v) = s.earlier l (omega arith) q
      earlier l p q c s (no v) = let same : l ≡ g = omega arith in rw same c

      go : (o : Outcome) → outcome_at b gr g ≡ o → ((d' : Doing) → groups_from b gr k (g + 1) d' ≡ fails j u → First (g + 1) (g + 1 + k) j u) → First g (g + suc k) j u
      go (converged x m n) e later =
          let s = later _ (sym (goes_on k g d x m n e) ∙ h) in
          let c : converges (outcome_at b gr g) ≡ true = rw e in
          record {
            from = omega (arith, s.from);
            below = omega (arith, s.below);
            why = s.why;
            iterations = s.iterations;
            tries = s.tries;
            outcome = s.outcome;
            answered = s.answered;
            earlier = λ l p q. earlier l p q c s (dec_lt g l);
          }
      go (failed w m n) e later =
          let s : fails g (failing_of (frame_in b gr g) w m n) ≡ fails j u = sym (stops k g d w m n e) ∙ h in
          let same : g ≡ j = cc in
          let shown : u ≡ failing_of (frame_in b gr g) w m n = cc in
          record {
            from = omega arith;
            below = omega arith;
            why = w;
            iterations = m;
            tries = n;
            outcome = rw (← same) e;
            answered = rw (← same) shown;
            earlier = λ l p q. absurd (omega arith);
          }

  all : (k g : ℕ) (d f : Doing) → groups_from b gr k g d ≡ fits f → (l : ℕ) → g ≤ l → l < g + k → converges (outcome_at b gr l) ≡ true
  all zero g d f h l p q = absurd (omega arith)
  all (suc k) g d f h l p q = go (outcome_at b gr g) refl (dec_lt g l) (λ d' e v. all k (g + 1) d' f e l v (omega arith))
    where
      go : (o : Outcome) → outcome_at b gr g ≡ o → Dec (g < l) → ((d' : Doing) → groups_from b gr k (g + 1) d' ≡ fits f → g + 1 ≤ l → converges (outcome_at b gr l) ≡ true)
          → converges (outcome_at b gr l) ≡ true
      go (converged x m n) e (yes v) later = later _ (sym (goes_on k g d x m n e) ∙ h) (omega arith)
      go (converged x m n) e (no v) later = let same : l ≡ g = omega arith in rw (same, e)
      go (failed w m n) e v later =
          let z : fails g (failing_of (frame_in b gr g) w m n) ≡ fits f = sym (stops k g d w m n e) ∙ h in
          let no : ◌≡◌ {A = ℕ} 0 1 = cc in
          absurd (omega arith)

-- ---- the order

third : (o n u m r f : Bool) → first_row o n u m r f ≡ 3 ↔ o ≡ true
third true n u m r f = (λ h. cc, λ h. cc)
third false true u m r f = (λ h. cc, λ h. cc)
third false false true m r f = (λ h. cc, λ h. cc)
third false false false true r f = (λ h. cc, λ h. cc)
third false false false false true f = (λ h. cc, λ h. cc)
third false false false false false true = (λ h. cc, λ h. cc)
third false false false false false false = (λ h. cc, λ h. cc)

ninth : (o n u m r f : Bool) → first_row o n u m r f ≡ 9 ↔ (o ≡ false) × (n ≡ true)
ninth true n u m r f = (λ h. (cc, cc), λ h. cc)
ninth false true u m r f = (λ h. (cc, cc), λ h. cc)
ninth false false true m r f = (λ h. (cc, cc), λ h. cc)
ninth false false false true r f = (λ h. (cc, cc), λ h. cc)
ninth false false false false true f = (λ h. (cc, cc), λ h. cc)
ninth false false false false false true = (λ h. (cc, cc), λ h. cc)
ninth false false false false false false = (λ h. (cc, cc), λ h. cc)

fourth : (o n u m r f : Bool) → first_row o n u m r f ≡ 4 ↔ (o ≡ false) × (n ≡ false) × (u ≡ true)
fourth true n u m r f = (λ h. (cc, cc, cc), λ h. cc)
fourth false true u m r f = (λ h. (cc, cc, cc), λ h. cc)
fourth false false true m r f = (λ h. (cc, cc, cc), λ h. cc)
fourth false false false true r f = (λ h. (cc, cc, cc), λ h. cc)
fourth false false false false true f = (λ h. (cc, cc, cc), λ h. cc)
fourth false false false false false true = (λ h. (cc, cc, cc), λ h. cc)
fourth false false false false false false = (λ h. (cc, cc, cc), λ h. cc)

fifth : (o n u m r f : Bool) → first_row o n u m r f ≡ 5 ↔ (o ≡ false) × (n ≡ false) × (u ≡ false) × (m ≡ true)
fifth true n u m r f = (λ h. (cc, cc, cc, cc), λ h. cc)
fifth false true u m r f = (λ h. (cc, cc, cc, cc), λ h. cc)
fifth false false true m r f = (λ h. (cc, cc, cc, cc), λ h. cc)
fifth false false false true r f = (λ h. (cc, cc, cc, cc), λ h. cc)
fifth false false false false true f = (λ h. (cc, cc, cc, cc), λ h. cc)
fifth false false false false false true = (λ h. (cc, cc, cc, cc), λ h. cc)
fifth false false false false false false = (λ h. (cc, cc, cc, cc), λ h. cc)

sixth : (o n u m r f : Bool) → first_row o n u m r f ≡ 6 ↔ (o ≡ false) × (n ≡ false) × (u ≡ false) × (m ≡ false) × (r ≡ true)
sixth true n u m r f = (λ h. (cc, cc, cc, cc, cc), λ h. cc)
sixth false true u m r f = (λ h. (cc, cc, cc, cc, cc), λ h. cc)
sixth false false true m r f = (λ h. (cc, cc, cc, cc, cc), λ h. cc)
sixth false false false true r f = (λ h. (cc, cc, cc, cc, cc), λ h. cc)
sixth false false false false true f = (λ h. (cc, cc, cc, cc, cc), λ h. cc)
sixth false false false false false true = (λ h. (cc, cc, cc, cc, cc), λ h. cc)
sixth false false false false false false = (λ h. (cc, cc, cc, cc, cc), λ h. cc)

seventh : (o n u m r f : Bool) → first_row o n u m r f ≡ 7 ↔ (o ≡ false) × (n ≡ false) × (u ≡ false) × (m ≡ false) × (r ≡ false) × (f ≡ true)
seventh true n u m r f = (λ h. (cc, cc, cc, cc, cc, cc), λ h. cc)
seventh false true u m r f = (λ h. (cc, cc, cc, cc, cc, cc), λ h. cc)
seventh false false true m r f = (λ h. (cc, cc, cc, cc, cc, cc), λ h. cc)
seventh false false false true r f = (λ h. (cc, cc, cc, cc, cc, cc), λ h. cc)
seventh false false false false true f = (λ h. (cc, cc, cc, cc, cc, cc), λ h. cc)
seventh false false false false false true = (λ h. (cc, cc, cc, cc, cc, cc), λ h. cc)
seventh false false false false false false = (λ h. (cc, cc, cc, cc, cc, cc), λ h. cc)

pub noughth : (o n u m r f : Bool) → first_row o n u m r f ≡ 0 ↔ (o ≡ false) × (n ≡ false) × (u ≡ false) × (m ≡ false) × (r ≡ false) × (f ≡ false)
noughth true n u m r f = (λ h. (cc, cc, cc, cc, cc, cc), λ h. cc)
noughth false true u m r f = (λ h. (cc, cc, cc, cc, cc, cc), λ h. cc)
noughth false false true m r f = (λ h. (cc, cc, cc, cc, cc, cc), λ h. cc)
noughth false false false true r f = (λ h. (cc, cc, cc, cc, cc, cc), λ h. cc)
noughth false false false false true f = (λ h. (cc, cc, cc, cc, cc, cc), λ h. cc)
noughth false false false false false true = (λ h. (cc, cc, cc, cc, cc, cc), λ h. cc)
noughth false false false false false false = (λ h. (cc, cc, cc, cc, cc, cc), λ h. cc)

-- 1 and 2 are no row's
not-text : (o n u m r f : Bool) → (first_row o n u m r f ≢ 1) × (first_row o n u m r f ≢ 2)
not-text true n u m r f = (λ h. absurd (omega arith), λ h. absurd (omega arith))
not-text false true u m r f = (λ h. absurd (omega arith), λ h. absurd (omega arith))
not-text false false true m r f = (λ h. absurd (omega arith), λ h. absurd (omega arith))
not-text false false false true r f = (λ h. absurd (omega arith), λ h. absurd (omega arith))
not-text false false false false true f = (λ h. absurd (omega arith), λ h. absurd (omega arith))
not-text false false false false false true = (λ h. absurd (omega arith), λ h. absurd (omega arith))
not-text false false false false false false = (λ h. absurd (omega arith), λ h. absurd (omega arith))

-- ---- the numbers

-- one of four tests holds, in words
four-of : {A B C D : Type 0} (p q r s : Bool) → (p ≡ true ↔ A) → (q ≡ true ↔ B) → (r ≡ true ↔ C) → (s ≡ true ↔ D) → p || q || r || s ≡ true ↔ A ⊎ B ⊎ C ⊎ D
four-of true q r s a b c d = (λ h. inl (a.0 refl), λ h. refl)
four-of false true r s a b c d = (λ h. inr (inl (b.0 refl)), λ h. refl)
four-of false false true s a b c d = (λ h. inr (inr (inl (c.0 refl))), λ h. refl)
four-of {A} {B} {C} {D} false false false s a b c d = (λ h. inr (inr (inr (d.0 h))), last)
  where
    last : A ⊎ B ⊎ C ⊎ D → s ≡ true
    last (inl h) = let f : ◌≡◌ {A = Bool} false true = a.1 h in cc
    last (inr (inl h)) = let f : ◌≡◌ {A = Bool} false true = b.1 h in cc
    last (inr (inr (inl h))) = let f : ◌≡◌ {A = Bool} false true = c.1 h in cc
    last (inr (inr (inr h))) = d.1 h

less : (m n : ℕ) → ltb m n ≡ true ↔ m < n
less m n = (ltb-true m n, lt-ltb m n)

module _ (b : Build) where
  too-many : over_bound b ≡ true ↔ TooMany b
  too-many = four-of _ _ _ _ (less 40 b.point_count) (less 40 b.line_count) (less 40 b.equation_count) (less 20 b.measure_count)

  too-short : (out p q r : ℕ) → no_room b out p q r ≡ true ↔ TooShort b out p q r
  too-short out p q r = four-of _ _ _ _ (less out (2 * b.point_count + b.measure_count)) (less p 6400) (less q 6400) (less r 6400)

  nothing-of : (out : List Float) (R : Result) → first_row false false false false false (unfit R) ≢ 0 → output_by b (grouping_of b) R out ≡ out
  nothing-of out (fits d) h = absurd (h refl)
  nothing-of out (fails g u) h = refl

  nothing-after : (out : List Float) (o n u m r : Bool) → first_row o n u m r (unfit (fit_of b)) ≢ 0
      → output_after b out (in_order o n (ordered o u m r)) ≡ out
  nothing-after out true n u m r h = refl
  nothing-after out false true u m r h = refl
  nothing-after out false false true m r h = refl
  nothing-after out false false false true r h = refl
  nothing-after out false false false false true h = refl
  nothing-after out false false false false false h = nothing-of out (fit_of b) h

  pub hands-out-nothing : HandsOutNothing b
  unfolding verdict_of check_of
  hands-out-nothing out p q r h =
      nothing-after out (over_bound b) (no_room b (length out) (length p) (length q) (length r)) (out_of_bounds b) (refers_to_nothing b) (over_rows b) h

  pub lowest-fails : LowestFails b
  unfolding fit_of
  lowest-fails j u h =
      let s = first b (grouping_of b) (group_count b (grouping_of b)) 0 (begin b) j u h in
      record {
        group = omega (arith, s.below, all-counted b);
        why = s.why;
        iterations = s.iterations;
        tries = s.tries;
        outcome = s.outcome;
        answered = s.answered;
        earlier = λ l k. s.earlier l (omega arith) k;
      }

  all_of : (d : Doing) → fit_of b ≡ fits d → AllFit b
  unfolding fit_of
  all_of d h g k = all b (grouping_of b) (group_count b (grouping_of b)) 0 (begin b) d h g (omega arith) (omega (arith, all-counted b))

  some_of : (R : Result) → fit_of b ≡ R → unfit R ≡ true → SomeFails b
  some_of (fits d) e h = let no : ◌≡◌ {A = Bool} false true = h in let z : ◌≡◌ {A = ℕ} 0 1 = cc in absurd (omega arith)
  some_of (fails j u) e h = let s = lowest-fails j u e in (j, s.group, rw s.outcome)

  some-fails : unfit (fit_of b) ≡ true → SomeFails b
  some-fails h = some_of (fit_of b) refl h

  -- where one group does not converge, not all do
  apart : SomeFails b → AllFit b → ◌≡◌ {A = ℕ} 0 1
  apart s a = let t : ◌≡◌ {A = Bool} true false = sym (a s.0 s.1) ∙ s.2 in cc

  fails_of : (R : Result) → fit_of b ≡ R → SomeFails b → unfit R ≡ true
  fails_of (fits d) e s = let z = apart s (all_of d e) in cc
  fails_of (fails j u) e s = refl

  pub fails-some : SomeFails b → unfit (fit_of b) ≡ true
  fails-some s = fails_of (fit_of b) refl s

  fit-of : (R : Result) → fit_of b ≡ R → unfit R ≡ false → AllFit b
  fit-of (fits d) e h = all_of d e
  fit-of (fails j u) e h = let no : ◌≡◌ {A = Bool} true false = h in let z : ◌≡◌ {A = ℕ} 0 1 = cc in absurd (omega arith)

  all_fit : unfit (fit_of b) ≡ false → AllFit b
  all_fit h = fit-of (fit_of b) refl h

  none_of : (R : Result) → fit_of b ≡ R → AllFit b → unfit R ≡ false
  none_of (fits d) e a = refl
  none_of (fails j u) e a = let z = apart (some_of (fails j u) e refl) a in cc

  fit_all : AllFit b → unfit (fit_of b) ≡ false
  fit_all a = none_of (fit_of b) refl a

  module _ (out p q r : ℕ) where
    sound : (over_bound b ≡ false) × (no_room b out p q r ≡ false) × (out_of_bounds b ≡ false) × (refers_to_nothing b ≡ false) × (over_rows b ≡ false) → Sound b out p q r
    sound h = record { counts = h.0; room = h.1; numbers = h.2; items = h.3; rows = h.4 }

    pub given-exactly : GivenExactly b out p q r
    given-exactly =
        let o = over_bound b in
        let n = no_room b out p q r in
        let u = out_of_bounds b in
        let m = refers_to_nothing b in
        let w = over_rows b in
        let f = unfit (fit_of b) in
        let nine = ninth o n u m w f in
        let six = sixth o n u m w f in
        let seven = seventh o n u m w f in
        let nought = noughth o n u m w f in
        record {
          three = (λ h. too-many.0 ((third o n u m w f).0 h), λ h. (third o n u m w f).1 (too-many.1 h));
          nine = (λ h. let t = nine.0 h in (t.0, (too-short out p q r).0 t.1), λ h. nine.1 (h.0, (too-short out p q r).1 h.1));
          four = fourth o n u m w f;
          five = fifth o n u m w f;
          six = (
            λ h. let t = six.0 h in (t.0, t.1, t.2, t.3, ltb-true 64 (rows_of_build b) t.4),
            λ h. six.1 (h.0, h.1, h.2, h.3, lt-ltb 64 (rows_of_build b) h.4),
          );
          seven = (
            λ h. let t = seven.0 h in (sound (t.0, t.1, t.2, t.3, t.4), some-fails t.5),
            λ h. seven.1 (h.0.counts, h.0.room, h.0.numbers, h.0.items, h.0.rows, fails-some h.1),
          );
          fitted = (
            λ h. let t = nought.0 h in (sound (t.0, t.1, t.2, t.3, t.4), all_fit t.5),
            λ h. nought.1 (h.0.counts, h.0.room, h.0.numbers, h.0.items, h.0.rows, fit_all h.1),
          );
          not-of-text = not-text o n u m w f;
        }
