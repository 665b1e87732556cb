-- What a call answers and leaves in its lent slice, for every input (document 01, "The numbers a job ends in", of a call on a bare
-- matrix): 3 for more than 80 rows or free coordinates, 9 for a slice shorter than its shape, and otherwise the call is carried out.
use Rattle.std.specs.Prelude.{ℕ, ◌*◌, Bool, cond, ◌&&◌, ◌||◌, List, ◌++◌, ◌≡◌, ltb, leb, Float, length, drop, Result, Ok, Err}
use Rattle.floats.specs.Only.{only-answer}
use Rattle.loops.specs.Numbers.{Meaning, refused, values, too_many, too_short}
use Rattle.normal.specs.Half.{triangle, half_of, spread_of, half_max_of}
use Rattle.normal.specs.Normal.{product_of, damped_of, moved_of}
use Rattle.slices.specs.declared.Refusal.{Refusal}
use Rattle.slices.specs.declared.Refusal.TheVariants.{TooMany, TooShort}

abbrev pub checked : {A : Type 0} → Bool → Bool → A → A → A → A
checked many room three nine done = cond many three (cond room done nine)

-- what a call answers: nothing, where it is carried out, or why it is not
abbrev pub Answered : Type 0
Answered = Result (Unit {0}) Refusal

-- what each case of an answer says in 01's terms, with the slice as it is afterwards
abbrev pub meaning_of : List Float → Answered → Meaning (List Float)
meaning_of a' (Ok u) = values a'
meaning_of a' (Err TooMany) = refused too_many
meaning_of a' (Err TooShort) = refused too_short

abbrev pub largest_is : Result Float Refusal → Meaning Float
largest_is (Ok m) = values m
largest_is (Err TooMany) = refused too_many
largest_is (Err TooShort) = refused too_short

-- a call that is to leave `done` where `a` was
pub record Makes (many room : Bool) (a done a' : List Float) (r : Answered) : Type 0 where
  pub answer : r ≡ checked many room (Err TooMany) (Err TooShort) (Ok tt)
  pub meaning : meaning_of a' r ≡ checked many room (refused too_many) (refused too_short) (values done)
  pub slice : a' ≡ checked many room a a done

-- no second answer, and no other content of the slice, meets the promise
pub only_one : {many room : Bool} {a done a₁ a₂ : List Float} {r₁ r₂ : Answered} → Makes many room a done a₁ r₁ → Makes many room a done a₂ r₂ → (r₁ ≡ r₂) × (a₁ ≡ a₂)
only_one p q = (only-answer p.answer q.answer, only-answer p.slice q.slice)

-- `product`: its half, to the head of h
abbrev pub Multiplies : ℕ → ℕ → List Float → List Float → List Float → Answered → Type 0
Multiplies rows nf j h =
    Makes (ltb 80 rows || ltb 80 nf) (leb (rows * nf) (length j) && leb (triangle rows) (length h)) h (half_of rows (product_of rows nf j) ++ drop (triangle rows) h)

-- `damped`: what is at the head of h is spread to the head of w and damped there
abbrev pub Damps : ℕ → Float → Float → List Float → List Float → List Float → Answered → Type 0
Damps rows mu m h w =
    Makes (ltb 80 rows) (leb (triangle rows) (length h) && leb (rows * rows) (length w)) w (damped_of rows mu m (spread_of rows h) ++ drop (rows * rows) w)

-- `moved`
abbrev pub Moves : ℕ → ℕ → List Float → List Float → List ℕ → List Float → List Float → Answered → Type 0
Moves rows nf j y free x =
    Makes (ltb 80 rows || ltb 80 nf) (leb (rows * nf) (length j) && leb rows (length y) && leb nf (length free)) x (moved_of rows nf j y free x)

-- `diag_max`
pub record Tops (rows : ℕ) (h : List Float) (r : Result Float Refusal) : Type 0 where
  pub answer : r ≡ checked (ltb 80 rows) (leb (triangle rows) (length h)) (Err TooMany) (Err TooShort) (Ok (half_max_of rows h))
  pub meaning : largest_is r ≡ checked (ltb 80 rows) (leb (triangle rows) (length h)) (refused too_many) (refused too_short) (values (half_max_of rows h))
