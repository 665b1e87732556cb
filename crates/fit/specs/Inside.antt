-- What the promises of the private functions are said by.
use Rattle.std.specs.Prelude.{ℕ, ◌*◌, ◌≤◌, List, ◌++◌, ◌≡◌, Float, length, take, drop}
use Rattle.members.specs.Lists.{numbers_of}
use Rattle.nullspace.specs.Promise.{decomposed_of}
use Rattle.nullspace.specs.Steps.{rank_of}
use Rattle.rounds.specs.Problem.{row_count}
use Rattle.rounds.specs.Promise.{zeroed}
use Rattle.sketch.specs.declared.Build.{Build}
use Rattle.fit.specs.Fits.{gradients_of}
use Rattle.fit.specs.declared.Frame.{Frame}

-- the gradients at the head of an area, and how many rows they are
pub record Lays (b : Build) (f : Frame) (nf : ℕ) (x p p' : List Float) (rows : ℕ) : Type 0 where
  pub counted : rows ≡ row_count b.equations (numbers_of f.equations.0)
  pub few : rows ≤ 80
  pub long : length (gradients_of b f x) ≡ rows * nf
  pub laid : p' ≡ gradients_of b f x ++ drop (rows * nf) p

-- the rank of the matrix of `rows` rows, 64 at most, and `n` columns at the head of p
pub record Ranks (rows n : ℕ) (p q r p' q' r' : List Float) (s : ℕ) : Type 0 where
  pub answer : s ≡ rank_of (decomposed_of rows n (take (rows * n) p))
  pub matrix : p' ≡ zeroed (rows * n) p
  pub work : q' ≡ zeroed (rows * n) q
  pub basis : r' ≡ zeroed (n * n) r
