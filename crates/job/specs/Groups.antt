-- lib.rs, `solve_group` and the loop of `solve` over the groups, over the whole build: each group is fitted by itself, in rising
-- order, until one does not converge. The fit, freedom, suspects and lowest point of a group are the room `fit`'s, and the
-- residuals at the points that are handed out the room `plate`'s.
use Rattle.std.specs.Prelude.{ℕ, zero, suc, ◌+◌, ◌*◌, min, Bool, cond, not, ◌&&◌, List, eqb, Float, length, get_or, set, replicate, Ok, Err}
use Rattle.std.specs.Prelude as std
use Rattle.answer.specs.Endings.{blank_group, failed_of, fitted_of}
use Rattle.answer.specs.declared.Answer.{Answer}
use Rattle.answer.specs.declared.GroupFit.{GroupFit}
use Rattle.fit.specs.Promise.{padded}
use Rattle.fit.specs.Frames.{start_in}
use Rattle.fit.specs.Groups.{lowest_of, freedom_in, frame_in, outcome_at, suspects_at}
use Rattle.fit.specs.declared.Frame.{Frame}
use Rattle.fit.specs.declared.NotFitted.{NotFitted}
use Rattle.groups.specs.Listed.{grouping_of}
use Rattle.groups.specs.declared.Grouping.{Grouping}
use Rattle.loops.specs.Turns.{up_to}
use Rattle.members.specs.Lists.{numbers_of}
use Rattle.members.specs.Movable.{nowhere}
use Rattle.members.specs.Scale.{unscale_of}
use Rattle.plate.specs.Worst.{worst_of}
use Rattle.rounds.specs.Reasons.{code_of, named_column, code_in, named_column_in}
use Rattle.rounds.specs.Solve.{Outcome, converged, failed}
use Rattle.rounds.specs.declared.Reason.{Reason}
use Rattle.sketch.specs.declared.Build.{Build}
use Rattle.sketch.specs.declared.Point.{Point}
use Rattle.job.specs.Points.{drawn, levelled, handed_out}
use Rattle.job.specs.declared.Doing.{Doing}
use Rattle.job.specs.declared.Failing.{Failing}
use Rattle.sketch.specs.Fixed.{is_fixed}

-- what the groups come to: all are fitted, or one does not converge, of which this is answered
pub data Result : Type 0 where
  fits : Doing → Result
  fails : ℕ → GroupFit → Result

abbrev pub followed : Result → (Doing → Result) → Result
followed (fits d) k = k d
followed (fails g u) k = fails g u

-- as the code holds it
abbrev pub result_of : std.Result Doing Failing → Result
result_of (Ok d) = fits d
result_of (Err e) = fails e.group e.failure

-- `Ok(GroupResult { points: eq.unscale(g, &x), dof, free })` and what `solve` does with it, of group g, which is set out as f
unfoldable pub taken_of : Build → Frame → ℕ → List Float → ℕ → ℕ → Doing → Doing
taken_of b f g x i t d = record {
  points = unscale_of b.points b.centre b.size (numbers_of f.points.0) x d.points;
  freedom = d.freedom + freedom_in b f x;
  groups = set d.groups g (record { lowest = lowest_of f; freedom = freedom_in b f x; iterations = i; tries = t; code = 0; column = 0 });
}

-- what is answered of a group, set out as f, that does not converge: document 02's code and column with its lowest point and counts
abbrev pub failing_of : Frame → Reason → ℕ → ℕ → GroupFit
failing_of f w i t = record { lowest = lowest_of f; freedom = 0; iterations = i; tries = t; code = code_of w; column = named_column w }

-- as the code has it from how the fit ended
abbrev pub failing_by : Frame → NotFitted → GroupFit
failing_by f u = record { lowest = lowest_of f; freedom = 0; iterations = u.iterations; tries = u.tries; code = code_in (Err u.why); column = named_column_in (Err u.why) }

-- `match fitted`; the coordinates of a fit stand at the head of 80 places
abbrev pub step_by : Build → Frame → ℕ → Doing → Outcome → Result
step_by b f g d (converged x i t) = fits (taken_of b f g (padded (length (start_in b f)) x) i t d)
step_by b f g d (failed w i t) = fails g (failing_of f w i t)

-- free, and in no group
abbrev pub loose_by : Point → ℕ → Bool
loose_by q group = eqb group 40 && not (is_fixed q.state)

abbrev pub loose_in : List Point → List ℕ → ℕ → Bool
loose_in points of p = loose_by (get_or points p nowhere) (get_or of p 0)

unfoldable pub loose_at : List Point → List ℕ → ℕ → ℕ → ℕ
loose_at points of p n = cond (loose_in points of p) (n + 1) n

-- how many of the first n points are
unfoldable pub loose_of : List Point → List ℕ → ℕ → ℕ
loose_of points of n = up_to n 0 (loose_at points of) 0

module _ (b : Build) (gr : Grouping) where
  unfoldable pub step_of : ℕ → Doing → Result
  step_of g d = step_by b (frame_in b gr g) g d (outcome_at b gr g)

  -- the k groups from g on
  unfoldable pub groups_from : ℕ → ℕ → Doing → Result
  groups_from zero g d = fits d
  groups_from (suc k) g d = followed (step_of g d) (groups_from k (g + 1))

  -- of 40 groups at most, and there are no more (proofs/Few.antt)
  abbrev pub group_count : ℕ
  group_count = min gr.count 40

  -- `eq.unconstrained.len()`
  abbrev pub loose_count : ℕ
  loose_count = loose_of b.points gr.of_point b.point_count

  abbrev pub answer_by : Result → Answer
  answer_by (fits d) = fitted_of group_count d.groups (d.freedom + 2 * loose_count) (worst_of b (levelled b d.points))
  answer_by (fails g u) = failed_of u (suspects_at b gr g)

  abbrev pub output_by : Result → List Float → List Float
  output_by (fits d) out = handed_out b d.points out
  output_by (fails g u) out = out

-- before the first group
unfoldable pub begin : Build → Doing
begin b = record { points = drawn b.points; freedom = 0; groups = replicate 40 blank_group }

-- what the groups of a build come to
unfoldable pub fit_of : Build → Result
fit_of b = groups_from b (grouping_of b) (group_count b (grouping_of b)) 0 (begin b)
