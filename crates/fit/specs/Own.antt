-- Document 01, demand 3, of two builds: a group's fit depends on its own part of the build alone. It is said over the definitions of
-- Groups.antt, each given the whole build and the group's number, of which a job's answer is made, and proved of any two builds, whether or not they pass the checks before
-- the fit: `own-part-alone` (proofs/Theorem.antt). specs/Examples.antt has two builds that share a group and little else.
use Rattle.std.specs.Prelude.{ℕ, ◌≡◌, Float, get_or}
use mathlib.Core.List.{List, Memᴰ}
use Rattle.groups.specs.Chains.{points_in, equations_in}
use Rattle.groups.specs.Listed.{grouping_of}
use Rattle.members.specs.Movable.{nowhere}
use Rattle.rows.specs.Column.{equation_at}
use Rattle.sketch.specs.Involved.{line_at, lines_named}
use Rattle.sketch.specs.declared.Build.{Build}
use Rattle.sketch.specs.declared.LineNo.{LineNo}
use Rattle.fit.specs.Groups.{outcome_at, freedom_at, residuals_at, suspects_at, lowest_at}

-- ---- a group of a build

-- the points and the equations of group g, by number
abbrev pub points_of_group : Build → ℕ → List ℕ
points_of_group b g = points_in (grouping_of b) g

abbrev pub equations_of_group : Build → ℕ → List ℕ
equations_of_group b g = equations_in (grouping_of b) g

-- ---- what two builds share

-- Group g of b is group g' of b': its points and its equations have the same numbers in both, and under these numbers stand the same
-- points, the same equations and the same ends of the lines that these equations name. Nothing is said of anything else in the two builds.
pub record SharesGroup (b b' : Build) (g g' : ℕ) : Type 0 where
  pub centre : b.centre ≡ b'.centre
  pub size : b.size ≡ b'.size
  pub listed-points : points_of_group b g ≡ points_of_group b' g'
  pub listed-equations : equations_of_group b g ≡ equations_of_group b' g'
  pub points : (p : ℕ) → Memᴰ p (points_of_group b g) → get_or b.points p nowhere ≡ get_or b'.points p nowhere
  pub equations : (k : ℕ) → Memᴰ k (equations_of_group b g) → equation_at b.equations k ≡ equation_at b'.equations k
  pub lines : (k : ℕ) → Memᴰ k (equations_of_group b g) → (l : LineNo) → Memᴰ l (lines_named (equation_at b.equations k))
      → line_at b.lines l ≡ line_at b'.lines l

-- ---- and what they then agree on

pub record FitsAlike (b b' : Build) (g g' : ℕ) : Type 0 where
  -- outcome: coordinates or reason, iterations and tries
  pub fit : outcome_at b (grouping_of b) g ≡ outcome_at b' (grouping_of b') g'
  -- at whatever coordinates, so at those of the fit
  pub freedom : (x : List Float) → freedom_at b (grouping_of b) g x ≡ freedom_at b' (grouping_of b') g' x
  pub residuals : (x : List Float) (k : ℕ) → Memᴰ k (equations_of_group b g)
      → residuals_at b (grouping_of b) g x k ≡ residuals_at b' (grouping_of b') g' x k
  pub suspects : suspects_at b (grouping_of b) g ≡ suspects_at b' (grouping_of b') g'
  pub lowest : lowest_at b (grouping_of b) g ≡ lowest_at b' (grouping_of b') g'
