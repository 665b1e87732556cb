-- What a job answers and leaves in each lent place, for every input (document 01, "The numbers a job ends in"): numbers 3, 9, 4, 5
-- and 6 in this order, which return only themselves and change nothing lent; then 7 or 0.
use Rattle.std.specs.Prelude.{ℕ, ◌+◌, ◌*◌, Bool, true, false, ◌||◌, List, ◌≡◌, ltb, Float, length, Ok, Err}
use Rattle.answer.specs.Endings.{refused_of}
use Rattle.answer.specs.declared.Answer.{Answer}
use Rattle.floats.specs.Only.{only-answer}
use Rattle.groups.specs.Listed.{grouping_of}
use Rattle.rounds.specs.Promise.{zeroed}
use Rattle.sketch.specs.Check.{Checked, over_bound, out_of_bounds, refers_to_nothing, over_rows, check_of, number_of}
use Rattle.sketch.specs.declared.Build.{Build}
use Rattle.sketch.specs.declared.Ending.TheVariants.{TooMany, TooShort}
use Rattle.job.specs.Groups.{Result, fits, fails, fit_of, answer_by, output_by}

-- 9: output shorter than two numbers per point plus one per measure, or any of three work areas shorter than 6,400, as
-- document 02, K9, has it
abbrev pub no_room : Build → ℕ → ℕ → ℕ → ℕ → Bool
no_room b out p q r = ltb out (2 * b.point_count + b.measure_count) || ltb p 6400 || ltb q 6400 || ltb r 6400

abbrev pub room_of : Bool → Checked
room_of true = Err TooShort
room_of false = Ok tt

-- of two verdicts the first that ends the job
abbrev pub first_refusal_of : Checked → Checked → Checked
first_refusal_of (Err e) c = Err e
first_refusal_of (Ok v) c = c

-- 3 before 9 before the rest of the check
abbrev pub in_order : Bool → Bool → Checked → Checked
in_order true n c = Err TooMany
in_order false n c = first_refusal_of (room_of n) c

unfoldable pub verdict_of : Build → ℕ → ℕ → ℕ → ℕ → Checked
verdict_of b out p q r = in_order (over_bound b) (no_room b out p q r) (check_of b)

-- 7: some group does not converge
abbrev pub unfit : Result → Bool
unfit (fits d) = false
unfit (fails g u) = true

-- 01's number of the first row that holds, the rows in 01's order: 3, 9, 4, 5, 6 and 7; and 0 where none does
abbrev pub first_row : Bool → Bool → Bool → Bool → Bool → Bool → ℕ
first_row true n u m r f = 3
first_row false true u m r f = 9
first_row false false true m r f = 4
first_row false false false true r f = 5
first_row false false false false true f = 6
first_row false false false false false true = 7
first_row false false false false false false = 0

-- the number of a job, with an output and areas of these lengths
abbrev pub number_in : Build → ℕ → ℕ → ℕ → ℕ → ℕ
number_in b out p q r = first_row (over_bound b) (no_room b out p q r) (out_of_bounds b) (refers_to_nothing b) (over_rows b) (unfit (fit_of b))

abbrev pub answer_after : Build → Checked → Answer
answer_after b (Err e) = refused_of e
answer_after b (Ok v) = answer_by b (grouping_of b) (fit_of b)

abbrev pub output_after : Build → List Float → Checked → List Float
output_after b out (Err e) = out
output_after b out (Ok v) = output_by b (grouping_of b) (fit_of b) out

abbrev pub area_after : List Float → Checked → List Float
area_after p (Err e) = p
area_after p (Ok v) = zeroed 6400 p

module _ (b : Build) (out p q r : List Float) where
  abbrev pub verdict : Checked
  verdict = verdict_of b (length out) (length p) (length q) (length r)

  pub record Does (out' p' q' r' : List Float) (a : Answer) : Type 0 where
    pub answer : a ≡ answer_after b verdict
    pub number : number_of a.ending ≡ number_in b (length out) (length p) (length q) (length r)
    pub output : out' ≡ output_after b out verdict
    pub first : p' ≡ area_after p verdict
    pub second : q' ≡ area_after q verdict
    pub third : r' ≡ area_after r verdict

  -- no second answer, and no other content of a lent place, meets the promise
  pub only_one : {out₁ p₁ q₁ r₁ out₂ p₂ q₂ r₂ : List Float} {a₁ a₂ : Answer} → Does out₁ p₁ q₁ r₁ a₁ → Does out₂ p₂ q₂ r₂ a₂
      → (a₁ ≡ a₂) × (out₁ ≡ out₂) × (p₁ ≡ p₂) × (q₁ ≡ q₂) × (r₁ ≡ r₂)
  only_one m n = (
    only-answer m.answer n.answer,
    only-answer m.output n.output,
    only-answer m.first n.first,
    only-answer m.second n.second,
    only-answer m.third n.third,
  )
