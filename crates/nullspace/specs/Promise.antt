-- What a call of `null_space` answers and leaves in each lent place, for every input.
use Rattle.std.specs.Prelude.{ℕ, ◌-◌, ◌*◌, cond, ◌≡◌, ltb, length, drop, replicate, Float, Result, Ok, Err}
use mathlib.Core.List.{List, ◌++◌, flatten}
use Rattle.floats.specs.Only.{only-answer}
use Rattle.floats.specs.Ops.{zero⁺}
use Rattle.loops.specs.Numbers.{Meaning, refused, values, too_many, too_short}
use Rattle.slices.specs.declared.Refusal.{Refusal}
use Rattle.slices.specs.declared.Refusal.TheVariants.{TooMany, TooShort}
use Rattle.nullspace.specs.Steps.{Qr, collect, row_at, cols_of, decomposed, reflectors_of, rank_of, basis_of}

-- what a call that is carried out finds: the rank, and the basis vectors
pub record Found : Type 0 where
  pub rank : ℕ
  pub basis : List (List Float)

-- what a call answers: the rank, or why it was not carried out
abbrev pub Answered : Type 0
Answered = Result ℕ Refusal

-- what each case of it says in document 01's terms, with the output as it is afterwards
abbrev pub meaning_of : ℕ → List Float → Answered → Meaning Found
meaning_of n out' (Ok r) = values (record { rank = r; basis = collect 0 (n - r) (λ i. row_at n i out') })
meaning_of n out' (Err TooMany) = refused too_many
meaning_of n out' (Err TooShort) = refused too_short

-- document 01's table for a call on a bare matrix: 3, then 9, and otherwise the call is carried out
module _ {A : Type 0} (rows n : ℕ) (m w out : List Float) where
  unfoldable pub checked : A → A → A → A
  checked three nine done =
      cond (ltb 64 rows) three
      (cond (ltb 80 n) three
      (cond (ltb (length m) (rows * n)) nine (cond (ltb (length w) (rows * n)) nine (cond (ltb (length out) (n * n)) nine done))))

-- the matrix that the call is about, decomposed; `null_space`'s pair, and its vectors one after another
abbrev pub decomposed_of : ℕ → ℕ → List Float → Qr
decomposed_of rows n m = decomposed n (cols_of rows n m)

abbrev pub found_in : ℕ → ℕ → List Float → Found
found_in rows n m = let d = decomposed_of rows n m in record { rank = rank_of d; basis = basis_of n (reflectors_of d) }

abbrev pub vectors_of : ℕ → ℕ → List Float → List Float
vectors_of rows n m = flatten (found_in rows n m).basis

module _ (rows n : ℕ) (m w out : List Float) where
  abbrev pub answer_of : Answered
  answer_of = checked rows n m w out (Err TooMany) (Err TooShort) (Ok (rank_of (decomposed_of rows n m)))

  abbrev pub work_after : List Float
  work_after = checked rows n m w out w w (replicate (rows * n) zero⁺ ++ drop (rows * n) w)

  abbrev pub output_after : List Float
  output_after = checked rows n m w out out out (vectors_of rows n m ++ drop ((n - rank_of (decomposed_of rows n m)) * n) out)

pub record Spans (rows n : ℕ) (m w out w' out' : List Float) (r : Answered) : Type 0 where
  pub answer : r ≡ answer_of rows n m w out
  pub meaning : meaning_of n out' r ≡ checked rows n m w out (refused too_many) (refused too_short) (values (found_in rows n m))
  pub work : w' ≡ work_after rows n m w out
  pub output : out' ≡ output_after rows n m w out

-- no second answer, and no other content of a lent place, meets the promise
pub only_one : {rows n : ℕ} {m w out w₁ out₁ w₂ out₂ : List Float} {r₁ r₂ : Answered} → Spans rows n m w out w₁ out₁ r₁ → Spans rows n m w out w₂ out₂ r₂
    → (r₁ ≡ r₂) × (w₁ ≡ w₂) × (out₁ ≡ out₂)
only_one p q = (only-answer p.answer q.answer, only-answer p.work q.work, only-answer p.output q.output)
