-- Sentences on a job that a user would say, of every build and every length of what is lent. Proved in proofs/Sentences.antt.
use Rattle.std.specs.Prelude.{ℕ, ◌+◌, ◌*◌, ◌<◌, Bool, true, false, ◌↔◌, ◌⊎◌, ◌≢◌, ◌≡◌, Float, length, get_or, drop}
use mathlib.Core.List.{List, ◌++◌, Memᴰ}
use Rattle.answer.specs.Endings.{failed_of}
use Rattle.answer.specs.declared.Answer.{Answer}
use Rattle.fit.specs.Fits.{converges}
use Rattle.fit.specs.Groups.{outcome_at, ReasonAt, TellsAt, outcome_without, residuals_at}
use Rattle.floats.specs.Largest.{AllWithin}
use Rattle.floats.specs.Ops.{1e-12}
use Rattle.groups.specs.Chains.{Touches, equations_in, Lowest}
use Rattle.groups.specs.Listed.{grouping_of}
use Rattle.groups.specs.Touches.{touched_by}
use Rattle.measures.specs.Gauges.{gauged_of}
use Rattle.plate.specs.Worst.{worst_of, Describes}
use Rattle.rounds.specs.Promise.{zeroed}
use Rattle.rounds.specs.Reasons.{code_of, named_column}
use Rattle.rounds.specs.Solve.{converged, failed}
use Rattle.rounds.specs.declared.Reason.{Reason}
use Rattle.sketch.specs.declared.Build.{Build}
use Rattle.job.specs.Given.{fits_at}
use Rattle.job.specs.Promise.{number_in, verdict_of, verdict, answer_after, output_after, area_after}

-- equation k is in group g, which converged at x, and its residuals there are within the tolerance
pub record Holds (b : Build) (k : ℕ) : Type 0 where
  pub group : ℕ
  pub x : List Float
  pub iterations : ℕ
  pub tries : ℕ
  pub listed : Memᴰ k (equations_in (grouping_of b) group)
  pub fit : outcome_at b (grouping_of b) group ≡ converged x iterations tries
  pub within : AllWithin 1e-12 (residuals_at b (grouping_of b) group x k)

-- group g is the lowest that does not converge
pub record Failing (b : Build) (g : ℕ) : Type 0 where
  pub group : g < (grouping_of b).count
  pub unfitted : fits_at b g ≡ false
  pub earlier : (l : ℕ) → l < g → fits_at b l ≡ true

-- fitted means fitted: in a job that ends in 0 every equation that touches a point is in a group that converged, and each of its
-- residuals at the group's fitted coordinates is finite and of magnitude at most 1e-12
abbrev pub FittedMeansFitted : Build → ℕ → ℕ → ℕ → ℕ → Type 0
FittedMeansFitted b out p q r = number_in b out p q r ≡ 0 → (k point : ℕ) → Touches (touched_by b) k point → Holds b k

-- a measure is taken from the points that are handed out: after 0 the output is the points, two numbers each, then the measures at these
-- points, and the rest is as it was
abbrev pub MeasuresAsHandedOut : Build → Type 0
MeasuresAsHandedOut b = (out p q r : List Float) → number_in b (length out) (length p) (length q) (length r) ≡ 0
    → (points : List Float)
    × (length points ≡ 2 * b.point_count)
    × (output_after b out (verdict b out p q r) ≡ points ++ (gauged_of b points ++ drop (2 * b.point_count + b.measure_count) out))

-- worst describes the plate: after 0 the answer's worst is the largest residual magnitude of all equations at the points that the output
-- begins with, placed and levelled (crates/plate/specs/Worst.antt); it goes by no fit, and may be more or less than at the fit, or infinite
abbrev pub WorstAsHandedOut : Build → Type 0
WorstAsHandedOut b = (out p q r : List Float) → number_in b (length out) (length p) (length q) (length r) ≡ 0
    → (points rest : List Float) → length points ≡ 2 * b.point_count → output_after b out (verdict b out p q r) ≡ points ++ rest
    → ((answer_after b (verdict b out p q r)).worst ≡ worst_of b points) × Describes b points (answer_after b (verdict b out p q r)).worst

-- 7 names the lowest group that does not converge: the answer has its lowest point, the iterations and tries of its own fit with all its
-- equations, and why that failed, by document 02's code and column; what the reason says holds (`reason`), and the column is 0 exactly when
-- the code is not 2 (`tells`). It marks equation k exactly when it is in that group and the group without it converges
pub record Names (b : Build) (a : Answer) : Type 0 where
  pub group : ℕ
  pub failing : Failing b group
  pub lowest : ℕ
  pub is-lowest : Lowest (grouping_of b) group lowest
  pub iterations : ℕ
  pub tries : ℕ
  pub why : Reason
  pub outcome : outcome_at b (grouping_of b) group ≡ failed why iterations tries
  pub reason : ReasonAt b (grouping_of b) group why iterations tries
  pub tells : TellsAt b (grouping_of b) group why iterations
  pub marks : List Bool
  pub answer : a
      ≡ failed_of (record { lowest = lowest; freedom = 0; iterations = iterations; tries = tries; code = code_of why; column = named_column why }) marks
  pub sized : length marks ≡ 40
  pub exactly : (k : ℕ) → k < 40
      → get_or marks k false ≡ true ↔ Memᴰ k (equations_in (grouping_of b) group) × (converges (outcome_without b (grouping_of b) group k) ≡ true)

abbrev pub FailureNamed : Build → ℕ → ℕ → ℕ → ℕ → Type 0
FailureNamed b out p q r = number_in b out p q r ≡ 7 → Names b (answer_after b (verdict_of b out p q r))

-- what a job leaves in an area that it is lent: +0.0 in the first 6,400 places and the rest as it was where it ends in 0 or 7, and
-- everything as it was where it refuses
abbrev pub AreasAfter : Build → Type 0
AreasAfter b = (out p q r area : List Float)
    → ((number_in b (length out) (length p) (length q) (length r) ≡ 0) ⊎ (number_in b (length out) (length p) (length q) (length r) ≡ 7) → area_after area (verdict b out p q r) ≡ zeroed 6400 area)
    × (number_in b (length out) (length p) (length q) (length r) ≢ 0 → number_in b (length out) (length p) (length q) (length r) ≢ 7 → area_after area (verdict b out p q r) ≡ area)
