-- What the promises of the private functions are said by.
use Rattle.std.specs.Prelude.{ℕ, ◌+◌, ◌*◌, ◌<◌, true, cond, List, ◌≡◌, Float, is_ok}
use Rattle.std.specs.Float.Ieee.{lt}
use Rattle.floats.specs.Magnitude.{abs_of, magnitude_of}
use Rattle.solver.specs.declared.pivot.Candidate.{Candidate}
use Rattle.solver.specs.Promise.{Answered, found}
use Rattle.solver.specs.Reasons.{Reasoned, some}
use Rattle.solver.specs.Steps.{Sys, at}

-- A candidate for the pivot of column col is one of the n rows, with its magnitude there.
pub record Sized (n col : ℕ) (a : List Float) (p : Candidate) : Type 0 where
  pub within : p.row < n
  pub size : p.size ≡ magnitude_of (at a (p.row * n + col))

-- what elimination answers where it is to come to x, and leaves in lent places, where every column had its pivot
pub record Reaches (x : Reasoned Sys) (s : Sys) (r : Answered) : Type 0 where
  pub answer : r ≡ found x
  pub left : is_ok r ≡ true → some s ≡ x

-- the larger of m and the magnitude of v, where m is no NaN
abbrev pub larger_number : Float → Float → Float
larger_number m v = cond (lt m (abs_of v)) (abs_of v) m
