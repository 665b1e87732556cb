-- Document 01, "The numbers a job ends in": each by its name; and what an answer says in 01's terms. Where an answer is an enum, a
-- definition beside its promise gives this for each of its cases, by these names.
use Rattle.std.specs.Prelude.{ℕ}

abbrev pub fitted : ℕ
fitted = 0

abbrev pub too_long : ℕ
too_long = 1

abbrev pub bad_form : ℕ
bad_form = 2

abbrev pub too_many : ℕ
too_many = 3

abbrev pub out_of_bounds : ℕ
out_of_bounds = 4

abbrev pub no_such_item : ℕ
no_such_item = 5

abbrev pub too_many_rows : ℕ
too_many_rows = 6

abbrev pub not_converged : ℕ
not_converged = 7

abbrev pub too_short : ℕ
too_short = 9

-- a number of the table that returns only itself, no answer, or the values that are handed out
pub data Meaning (A : Type 0) : Type 0 where
  refused : ℕ → Meaning A
  none : Meaning A
  values : A → Meaning A
