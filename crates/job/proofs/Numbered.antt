-- The number of a job's answer is that of the first row that holds. Assumes nothing.
use Prim.Native.Nat.{ℕ}
use mathlib.Core.Bool.{Bool, true, false}
use mathlib.Core.Path.{◌≡◌, refl}
use Rattle.groups.specs.Listed.{grouping_of}
use Rattle.sketch.specs.Check.{check_of, ordered, number_of, over_bound, out_of_bounds, refers_to_nothing, over_rows}
use Rattle.sketch.specs.declared.Build.{Build}
use Rattle.job.specs.Groups.{Result, fits, fails, fit_of, answer_by}
use Rattle.job.specs.Promise.{no_room, in_order, verdict_of, answer_after, unfit, first_row, number_in}

module _ (b : Build) where
  fitted : (R : Result) → number_of (answer_by b (grouping_of b) R).ending ≡ first_row false false false false false (unfit R)
  fitted (fits d) = refl
  fitted (fails g u) = refl

  judged : (o n u m r : Bool) → number_of (answer_after b (in_order o n (ordered o u m r))).ending ≡ first_row o n u m r (unfit (fit_of b))
  judged true n u m r = refl
  judged false true u m r = refl
  judged false false true m r = refl
  judged false false false true r = refl
  judged false false false false true = refl
  judged false false false false false = fitted (fit_of b)

  pub number_is : (out p q r : ℕ) → number_of (answer_after b (verdict_of b out p q r)).ending ≡ number_in b out p q r
  unfolding verdict_of check_of
  number_is out p q r = judged (over_bound b) (no_room b out p q r) (out_of_bounds b) (refers_to_nothing b) (over_rows b)
