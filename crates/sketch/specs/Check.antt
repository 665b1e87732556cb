-- What a library build ends in before its fit: document 01's 3, 4, 5 and 6, in 01's order.
use Rattle.std.specs.Prelude.{Bool, true, false, not, ◌||◌, ◌≡◌, ℕ, ltb, Result, Ok, Err}
use Rattle.loops.specs.Numbers as number
use Rattle.loops.specs.Numbers.{Meaning, refused, values}
use Rattle.sketch.specs.Indices.{found_build}
use Rattle.sketch.specs.Numbers.{bounded_build}
use Rattle.sketch.specs.Rows.{rows_of_build}
use Rattle.sketch.specs.declared.Build.{Build}
use Rattle.sketch.specs.declared.Ending.{Ending}
use Rattle.sketch.specs.declared.Ending.TheVariants.{Fitted, TooLong, BadForm, TooMany, OutOfBounds, NoSuchItem, TooManyRows, NotConverged, TooShort}

-- document 01's number of each ending
abbrev pub number_of : Ending → ℕ
number_of Fitted = number.fitted
number_of TooLong = number.too_long
number_of BadForm = number.bad_form
number_of TooMany = number.too_many
number_of OutOfBounds = number.out_of_bounds
number_of NoSuchItem = number.no_such_item
number_of TooManyRows = number.too_many_rows
number_of NotConverged = number.not_converged
number_of TooShort = number.too_short

-- what the check answers: nothing, where the build passes, or what it ends in
abbrev pub Checked : Type 0
Checked = Result (Unit {0}) Ending

-- 3: a count over its bound
abbrev pub over_bound : Build → Bool
over_bound b =
    ltb 40 b.point_count || ltb 40 b.line_count || ltb 40 b.equation_count || ltb 20 b.measure_count

-- 4: a number of the build not finite or outside its bound
abbrev pub out_of_bounds : Build → Bool
out_of_bounds b = not (bounded_build b)

-- 5: a point or line number not below its count
abbrev pub refers_to_nothing : Build → Bool
refers_to_nothing b = not (found_build b)

-- 6: more than 64 residual rows
abbrev pub over_rows : Build → Bool
over_rows b = ltb 64 (rows_of_build b)

-- the first of the four that holds decides
abbrev pub ordered : Bool → Bool → Bool → Bool → Checked
ordered true u m r = Err TooMany
ordered false true m r = Err OutOfBounds
ordered false false true r = Err NoSuchItem
ordered false false false true = Err TooManyRows
ordered false false false false = Ok tt

unfoldable pub check_of : Build → Checked
check_of b = ordered (over_bound b) (out_of_bounds b) (refers_to_nothing b) (over_rows b)

-- ---- by 01's numbers

-- what an answer of `check` on b says: the number that b ends in, or b as it is where it passes
abbrev pub meaning_of : Build → Checked → Meaning Build
meaning_of b (Err e) = refused (number_of e)
meaning_of b (Ok v) = values b

-- the number of the first of 01's rows that holds, or the build where none does
abbrev pub numbered : Build → Bool → Bool → Bool → Bool → Meaning Build
numbered b true u m r = refused 3
numbered b false true m r = refused 4
numbered b false false true r = refused 5
numbered b false false false true = refused 6
numbered b false false false false = values b

pub record Checks (b : Build) (r : Checked) : Type 0 where
  pub answer : r ≡ check_of b
  pub meaning : meaning_of b r ≡ numbered b (over_bound b) (out_of_bounds b) (refers_to_nothing b) (over_rows b)
