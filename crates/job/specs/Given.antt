-- Each of document 01's numbers that a job on a build ends in is given exactly when its own row of the table holds and no row before
-- it does, in 01's order: 3, 9, 4, 5, 6, 7; 0 exactly when none does; and 1 and 2, which come from text, never: `given-exactly`. Where a
-- group fails, it is the lowest that does: `lowest-fails`. A job that is not fitted leaves its output as it was: `hands-out-nothing`.
-- All three are proved in proofs/Theorem.antt, of every build and every length of what is lent.
use Rattle.std.specs.Prelude.{ℕ, ◌+◌, ◌*◌, ◌<◌, Bool, true, false, List, ◌↔◌, ◌⊎◌, ◌≢◌, ◌≡◌, Float, length}
use Rattle.fit.specs.Fits.{converges}
use Rattle.answer.specs.declared.GroupFit.{GroupFit}
use Rattle.fit.specs.Groups.{frame_in, outcome_at}
use Rattle.groups.specs.Listed.{grouping_of}
use Rattle.rounds.specs.Solve.{failed}
use Rattle.rounds.specs.declared.Reason.{Reason}
use Rattle.sketch.specs.Check.{over_bound, out_of_bounds, refers_to_nothing, over_rows}
use Rattle.sketch.specs.Rows.{rows_of_build}
use Rattle.sketch.specs.declared.Build.{Build}
use Rattle.job.specs.Groups.{fails, failing_of, fit_of}
use Rattle.job.specs.Promise.{no_room, number_in, verdict, output_after}

-- 3: more than 40 points, lines or equations, or 20 measures
abbrev pub TooMany : Build → Type 0
TooMany b = (40 < b.point_count) ⊎ (40 < b.line_count) ⊎ (40 < b.equation_count) ⊎ (20 < b.measure_count)

-- 9: output shorter than two numbers per point plus one per measure, or any of three work areas shorter than 6,400, as
-- document 02, K9, has it
abbrev pub TooShort : Build → ℕ → ℕ → ℕ → ℕ → Type 0
TooShort b out p q r = (out < 2 * b.point_count + b.measure_count) ⊎ (p < 6400) ⊎ (q < 6400) ⊎ (r < 6400)

-- whether group g converges
abbrev pub fits_at : Build → ℕ → Bool
fits_at b g = converges (outcome_at b (grouping_of b) g)

-- 7: some group does not converge
abbrev pub SomeFails : Build → Type 0
SomeFails b = (g : ℕ) × (g < (grouping_of b).count) × (fits_at b g ≡ false)

-- 0: each converges
abbrev pub AllFit : Build → Type 0
AllFit b = (g : ℕ) → g < (grouping_of b).count → fits_at b g ≡ true

-- none of the rows before a fit holds
pub record Sound (b : Build) (out p q r : ℕ) : Type 0 where
  pub counts : over_bound b ≡ false
  pub room : no_room b out p q r ≡ false
  pub numbers : out_of_bounds b ≡ false
  pub items : refers_to_nothing b ≡ false
  pub rows : over_rows b ≡ false

pub record GivenExactly (b : Build) (out p q r : ℕ) : Type 0 where
  pub three : number_in b out p q r ≡ 3 ↔ TooMany b
  pub nine : number_in b out p q r ≡ 9 ↔ (over_bound b ≡ false) × TooShort b out p q r
  pub four : number_in b out p q r ≡ 4 ↔ (over_bound b ≡ false) × (no_room b out p q r ≡ false) × (out_of_bounds b ≡ true)
  pub five : number_in b out p q r ≡ 5
      ↔ (over_bound b ≡ false) × (no_room b out p q r ≡ false) × (out_of_bounds b ≡ false) × (refers_to_nothing b ≡ true)
  pub six : number_in b out p q r ≡ 6
      ↔ (over_bound b ≡ false) × (no_room b out p q r ≡ false) × (out_of_bounds b ≡ false) × (refers_to_nothing b ≡ false) × (64 < rows_of_build b)
  pub seven : number_in b out p q r ≡ 7 ↔ Sound b out p q r × SomeFails b
  pub fitted : number_in b out p q r ≡ 0 ↔ Sound b out p q r × AllFit b
  pub not-of-text : (number_in b out p q r ≢ 1) × (number_in b out p q r ≢ 2)

-- the failing group is the lowest that does not converge, with its own reason and counts
pub record LowestFailing (b : Build) (j : ℕ) (u : GroupFit) : Type 0 where
  pub group : j < (grouping_of b).count
  pub why : Reason
  pub iterations : ℕ
  pub tries : ℕ
  pub outcome : outcome_at b (grouping_of b) j ≡ failed why iterations tries
  pub answered : u ≡ failing_of (frame_in b (grouping_of b) j) why iterations tries
  pub earlier : (l : ℕ) → l < j → fits_at b l ≡ true

abbrev pub LowestFails : Build → Type 0
LowestFails b = (j : ℕ) (u : GroupFit) → fit_of b ≡ fails j u → LowestFailing b j u

-- a job that is not fitted hands out nothing: its output is as it was
abbrev pub HandsOutNothing : Build → Type 0
HandsOutNothing b = (out p q r : List Float) → number_in b (length out) (length p) (length q) (length r) ≢ 0
    → output_after b out (verdict b out p q r) ≡ out
