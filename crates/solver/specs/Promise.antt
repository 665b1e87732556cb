-- What a call of `solve_dense` answers and leaves in each lent place, for every input.
use Rattle.std.specs.Prelude.{ℕ, ◌*◌, true, cond, List, ◌++◌, ◌≡◌, ltb, leb, length, take, drop, replicate, Float, Result, Ok, Err, is_ok}
use Rattle.floats.specs.Only.{only-answer}
use Rattle.floats.specs.Ops.{zero⁺}
use Rattle.loops.specs.Numbers.{Meaning, refused, none, values, too_many, too_short}
use Rattle.slices.specs.declared.Refusal.TheVariants.{TooMany, TooShort}
use Rattle.solver.specs.declared.Unsolved.{Unsolved}
use Rattle.solver.specs.declared.Unsolved.TheVariants.{NoPivot, NotFinite, Refused}
use Rattle.solver.specs.Reasons.{Reasoned, some, no_pivot, not_finite, reasoned_of}

-- what a call answers: nothing, where the right side holds the answer, or why there is none
abbrev pub Answered : Type 0
Answered = Result (Unit {0}) Unsolved

-- what each case of it says in document 01's terms, with the right side as it is afterwards
abbrev pub meaning_of : ℕ → List Float → Answered → Meaning (List Float)
meaning_of n b' (Ok u) = values (take n b')
meaning_of n b' (Err (NoPivot c)) = none
meaning_of n b' (Err NotFinite) = none
meaning_of n b' (Err (Refused TooMany)) = refused too_many
meaning_of n b' (Err (Refused TooShort)) = refused too_short

-- document 01's table for a call on a bare matrix: 3, then 9, and otherwise the call is carried out
module _ {A : Type 0} (n : ℕ) (a b : List Float) where
  unfoldable pub checked : A → A → A → A
  checked three nine done = cond (ltb 80 n) three (cond (leb (n * n) (length a)) (cond (leb n (length b)) done nine) nine)

-- the answer of a call that is carried out, with the column that document 02 asks for
abbrev pub found : {A : Type 0} → Reasoned A → Answered
found (some y) = Ok tt
found (no_pivot c) = Err (NoPivot c)
found not_finite = Err NotFinite

-- what a call that is carried out finds in a, b, where the right side is b' afterwards: it is the answer, where there is one
pub record Finds (n : ℕ) (a b b' : List Float) (r : Answered) : Type 0 where
  pub answer : r ≡ found (reasoned_of n a b)
  pub right : is_ok r ≡ true → some b' ≡ reasoned_of n a b

abbrev pub meant : Reasoned (List Float) → Meaning (List Float)
meant (some y) = values y
meant (no_pivot c) = none
meant not_finite = none

-- the right side's n places afterwards: the answer, or +0.0
abbrev pub or_zeros : ℕ → Reasoned (List Float) → List Float
or_zeros n (some y) = y
or_zeros n (no_pivot c) = replicate n zero⁺
or_zeros n not_finite = replicate n zero⁺

-- the system that the call is about: the n² places at the head of a, and the n at the head of b
abbrev pub solved : ℕ → List Float → List Float → Reasoned (List Float)
solved n a b = reasoned_of n (take (n * n) a) (take n b)

abbrev pub answer_of : ℕ → List Float → List Float → Answered
answer_of n a b = checked n a b (Err (Refused TooMany)) (Err (Refused TooShort)) (found (solved n a b))

abbrev pub matrix_after : ℕ → List Float → List Float → List Float
matrix_after n a b = checked n a b a a (replicate (n * n) zero⁺ ++ drop (n * n) a)

abbrev pub right_after : ℕ → List Float → List Float → List Float
right_after n a b = checked n a b b b (or_zeros n (solved n a b) ++ drop n b)

pub record Solves (n : ℕ) (a b a' b' : List Float) (r : Answered) : Type 0 where
  pub answer : r ≡ answer_of n a b
  pub meaning : meaning_of n b' r ≡ checked n a b (refused too_many) (refused too_short) (meant (solved n a b))
  pub matrix : a' ≡ matrix_after n a b
  pub right : b' ≡ right_after n a b

-- no second answer, and no other content of a lent place, meets the promise
pub only_one : {n : ℕ} {a b a₁ b₁ a₂ b₂ : List Float} {r₁ r₂ : Answered} → Solves n a b a₁ b₁ r₁ → Solves n a b a₂ b₂ r₂ → (r₁ ≡ r₂) × (a₁ ≡ a₂) × (b₁ ≡ b₂)
only_one p q = (only-answer p.answer q.answer, only-answer p.matrix q.matrix, only-answer p.right q.right)
