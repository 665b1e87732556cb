-- What a call of `solve` answers and leaves in each lent place, for every input.
use Rattle.std.specs.Prelude.{ℕ, ◌*◌, Bool, cond, ◌||◌, List, ◌++◌, ◌≡◌, ltb, Float, length, drop, replicate, Result, Ok, Err}
use Rattle.floats.specs.Only.{only-answer}
use Rattle.floats.specs.Ops.{zero⁺}
use Rattle.loops.specs.Numbers.{Meaning, refused, values, not_converged}
use Rattle.loops.specs.Numbers as number
use Rattle.normal.specs.Half.{triangle}
use Rattle.sketch.specs.declared.Active.{Active}
use Rattle.sketch.specs.declared.Line.{Line}
use Rattle.slices.specs.declared.Refusal.TheVariants.{TooMany, TooShort}
use Rattle.rounds.specs.Inside.{ended_of}
use Rattle.rounds.specs.Problem.{row_count, jacobian_at, problem_of}
use Rattle.rounds.specs.Solve.{Outcome, converged, failed, solve_of}
use Rattle.rounds.specs.declared.Fit.{Fit}
use Rattle.rounds.specs.declared.Solved.{Solved}
use Rattle.rounds.specs.declared.Unfitted.{Unfitted}
use Rattle.rounds.specs.declared.Unfitted.TheVariants.{Failed, Refused}

-- the first k places of an area are +0.0, the rest is as it was
abbrev pub zeroed : ℕ → List Float → List Float
zeroed k a = replicate k zero⁺ ++ drop k a

abbrev pub saying : Result (Unit {0}) Unfitted → ℕ → ℕ → Solved
saying e i t = record { ending = e; iterations = i; tries = t }

-- what a fit's outcome is to the caller: document 01's "converged" with its counts, or a failure with its reason and its counts
abbrev pub answered_by : Outcome → Solved
answered_by (converged x i t) = saying (Ok tt) i t
answered_by (failed w i t) = saying (Err (Failed w)) i t

-- what each case of the answer says in document 01's terms, with the coordinates as they are afterwards: these, the iterations and
-- the tries of a fit that converged, or 01's number
abbrev pub meaning_of : List Float → Solved → Meaning (List Float × ℕ × ℕ)
meaning_of x' s = by s.ending
  where
    by : Result (Unit {0}) Unfitted → Meaning (List Float × ℕ × ℕ)
    by (Ok _) = values (x', s.iterations, s.tries)
    by (Err (Failed w)) = refused not_converged
    by (Err (Refused TooMany)) = refused number.too_many
    by (Err (Refused TooShort)) = refused number.too_short

abbrev pub meant : Outcome → Meaning (List Float × ℕ × ℕ)
meant (converged x i t) = values (x, i, t)
meant (failed w i t) = refused not_converged

-- only a fit that converged has coordinates
abbrev pub coordinates_of : List Float → Outcome → List Float
coordinates_of x (converged y i t) = y
coordinates_of x (failed w i t) = x

module _ (es : List Active) (ls : List Line) (places columns chosen free : List ℕ) where
  abbrev pub outcome_of : List Float → Outcome
  outcome_of x = solve_of (problem_of es ls places chosen free (row_count es chosen)) (jacobian_at es ls places chosen columns (length free)) x

  module _ (x a b c : List Float) where
    abbrev pub too_many : Bool
    too_many = ltb 40 (length chosen) || ltb 80 (length free) || ltb 80 (length x)

    abbrev pub too_short : Bool
    too_short = ltb (length a) 6400 || ltb (length b) 6400 || ltb (length c) 6400

    -- a refusal, or what the call comes to
    abbrev pub checked : {A : Type 0} → A → A → A → A
    checked three nine done = cond too_many three (cond too_short nine done)

    pub record Solves (x' a' b' c' : List Float) (s : Solved) : Type 0 where
      pub answer : s ≡ checked (saying (Err (Refused TooMany)) 0 0) (saying (Err (Refused TooShort)) 0 0) (answered_by (outcome_of x))
      pub meaning : meaning_of x' s ≡ checked (refused number.too_many) (refused number.too_short) (meant (outcome_of x))
      pub coordinates : x' ≡ checked x x (coordinates_of x (outcome_of x))
      pub jacobian : a' ≡ checked a a (zeroed (row_count es chosen * length free) a)
      pub product : b' ≡ checked b b (zeroed (triangle (row_count es chosen)) b)
      pub copy : c' ≡ checked c c (zeroed (row_count es chosen * row_count es chosen) c)

    -- what the fit comes to and leaves, where nothing is refused
    pub record Leaves (x' a' b' c' : List Float) (e : Result Fit Fit) : Type 0 where
      pub outcome : ended_of x' e ≡ outcome_of x
      pub jacobian : a' ≡ zeroed (row_count es chosen * length free) a
      pub product : b' ≡ zeroed (triangle (row_count es chosen)) b
      pub copy : c' ≡ zeroed (row_count es chosen * row_count es chosen) c

    -- no second answer, and no other content of a lent place, meets the promise
    pub only_one : {x₁ a₁ b₁ c₁ x₂ a₂ b₂ c₂ : List Float} {s₁ s₂ : Solved} → Solves x₁ a₁ b₁ c₁ s₁ → Solves x₂ a₂ b₂ c₂ s₂
        → (s₁ ≡ s₂) × (x₁ ≡ x₂) × (a₁ ≡ a₂) × (b₁ ≡ b₂) × (c₁ ≡ c₂)
    only_one p q = (
      only-answer p.answer q.answer,
      only-answer p.coordinates q.coordinates,
      only-answer p.jacobian q.jacobian,
      only-answer p.product q.product,
      only-answer p.copy q.copy,
    )
