-- What the calls say where no enum can be handed over.
use Rattle.std.specs.Prelude.{ℕ, ◌+◌, ◌≤◌, List, ◌≡◌, Float, Ok, Err}
use Rattle.loops.specs.Numbers as number
use Rattle.slices.specs.declared.Refusal.{Refusal}
use Rattle.slices.specs.declared.Refusal.TheVariants.{TooMany, TooShort}
use Rattle.solver.specs.declared.Unsolved.TheVariants.{NoPivot, NotFinite, Refused}
use Rattle.solver.specs.Promise.{Answered, answer_of, matrix_after, right_after}
use Rattle.nullspace.specs.Promise as spanned

-- document 01's number of a refusal
abbrev pub refusal_code : Refusal → ℕ
refusal_code TooMany = number.too_many
refusal_code TooShort = number.too_short

-- 01's number for a refusal; where the call is carried out, 0, 255 for a result that is not finite, and 256 and the column, counted
-- from 1, that has no pivot
abbrev pub solved_code : Answered → ℕ
solved_code (Ok u) = number.fitted
solved_code (Err (NoPivot c)) = 256 + c
solved_code (Err NotFinite) = 255
solved_code (Err (Refused why)) = refusal_code why

-- a column that is named is one of 80
abbrev pub IsNamed : Answered → Type 0
IsNamed (Ok u) = Unit {0}
IsNamed (Err (NoPivot c)) = c ≤ 80
IsNamed (Err NotFinite) = Unit {0}
IsNamed (Err (Refused why)) = Unit {0}

pub record SolvesC (n : ℕ) (a b a' b' : List Float) (r : ℕ) : Type 0 where
  pub answer : r ≡ solved_code (answer_of n a b)
  pub matrix : a' ≡ matrix_after n a b
  pub right : b' ≡ right_after n a b

-- the rank, which is at most 64; for a refusal 256 and document 01's number
abbrev pub rank_code : spanned.Answered → ℕ
rank_code (Ok r) = r
rank_code (Err why) = 256 + refusal_code why

pub record SpansC (rows n : ℕ) (m w out w' out' : List Float) (r : ℕ) : Type 0 where
  pub answer : r ≡ rank_code (spanned.answer_of rows n m w out)
  pub work : w' ≡ spanned.work_after rows n m w out
  pub output : out' ≡ spanned.output_after rows n m w out
