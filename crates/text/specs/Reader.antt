-- The whole text, in document 01's order: its length, the form of the four count lines, the counts' bounds, the rest of the form.
use Rattle.std.specs.Prelude.{Bool, true, false, ◌||◌, List, ℕ, ltb, eqb, length, Result, Ok, Err, if◌then◌else◌}
use Rattle.std.specs.Result.{result_or}
use Rattle.phrases.specs.Fields.{vec_at}
use Rattle.sketch.specs.Blank.{sample}
use Rattle.sketch.specs.declared.Build.{Build}
use Rattle.sketch.specs.declared.Ending.{Ending}
use Rattle.spelling.specs.Floating.{float_at}
use Rattle.spelling.specs.Letters.{ascii}
use Rattle.spelling.specs.Places.{Read, ◌>>=◌, eat_of, word_of}
use Rattle.spelling.specs.Wholes.{whole_at}
use Rattle.text.specs.Items.{items_at}
use Rattle.text.specs.Lines.{point_line, line_line, equation_line, measure_line}
use Rattle.text.specs.declared.Counts.{Counts}

-- a key, a whole number and a newline
unfoldable pub count_at : List ℕ → ℕ → List ℕ → Read ℕ
count_at s at key = do
  k ← word_of s at key
  n ← whole_at s k
  end ← eat_of s n.1 10
  Ok (n.0, end)

-- the four count lines
unfoldable pub counts_at : List ℕ → ℕ → Read Counts
counts_at s at = do
  p ← count_at s at (ascii "points=")
  l ← count_at s p.1 (ascii "lines=")
  e ← count_at s l.1 (ascii "equations=")
  m ← count_at s e.1 (ascii "measures=")
  Ok (record { points = p.0; lines = l.0; equations = e.0; measures = m.0 }, m.1)

abbrev pub over : Counts → Bool
over n = ltb 40 n.points || ltb 40 n.lines || ltb 40 n.equations || ltb 20 n.measures

-- what comes after the counts: "centre=", "size=" and the items
unfoldable pub rest_at : Counts → List ℕ → ℕ → Read Build
rest_at n s at = do
  c ← word_of s at (ascii "centre=")
  v ← vec_at s c
  k ← word_of s v.1 (ascii "\nsize=")
  z ← float_at s k
  i ← eat_of s z.1 10
  p ← items_at point_line n.points s i
  l ← items_at line_line n.lines s p.1
  e ← items_at equation_line n.equations s l.1
  m ← items_at measure_line n.measures s e.1
  Ok (sample v.0 z.0 p.0 l.0 e.0 m.0, m.1)

-- what was read, where the text ends there; else the place from which it goes on
abbrev pub ended : {A : Type 0} → List ℕ → Read A → Result A ℕ
ended s (Ok r) = if eqb r.1 (length s) then Ok r.0 else Err r.1
ended s (Err e) = Err e

-- the build that stands after the counts
abbrev pub build_at : List ℕ → Read Counts → Result Build ℕ
build_at s (Ok n) = ended s (rest_at n.0 s n.1)
build_at s (Err e) = Err e

-- 1: over 16,384 bytes
abbrev pub too_long : List ℕ → Bool
too_long s = ltb 16384 (length s)

-- 2, in the count lines
abbrev pub bad_counts : Read Counts → Bool
bad_counts (Ok n) = false
bad_counts (Err e) = true

-- 3: a count over its bound
abbrev pub over_counts : Read Counts → Bool
over_counts (Ok n) = over n.0
over_counts (Err e) = false

-- 2, after them: something was not as it should be, or the text goes on
abbrev pub bad_rest : Result Build ℕ → Bool
bad_rest (Ok b) = false
bad_rest (Err e) = true

-- the first of the four that holds decides
abbrev pub judged : Bool → Bool → Bool → Result Build ℕ → Result Build Ending
judged true c o b = Err Ending.TooLong
judged false true o b = Err Ending.BadForm
judged false false true b = Err Ending.TooMany
judged false false false b = result_or b (Err Ending.BadForm)

unfoldable pub read_of : List ℕ → Result Build Ending
read_of s =
    let n = counts_at s 0 in
    judged (too_long s) (bad_counts n) (over_counts n) (build_at s n)
