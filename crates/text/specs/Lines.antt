-- The lines of the items: a key, what it holds, and a newline (the byte 10).
use Rattle.std.specs.Prelude.{List, ℕ, Ok}
use Rattle.phrases.specs.Equations.{equation_at}
use Rattle.phrases.specs.Fields.{number_at, vec_at}
use Rattle.phrases.specs.Measures.{measure_at}
use Rattle.sketch.specs.Made.{point_no}
use Rattle.sketch.specs.declared.Active.{Active}
use Rattle.sketch.specs.declared.Line.{Line}
use Rattle.sketch.specs.declared.Measured.{Measured}
use Rattle.sketch.specs.declared.Point.{Point}
use Rattle.sketch.specs.declared.State.{State}
use Rattle.spelling.specs.Letters.{ascii}
use Rattle.spelling.specs.Places.{Read, ◌>>=◌, if_ok, eat_of, word_of}
use Rattle.spelling.specs.Wholes.{whole_at}

-- ",free", ",kept" or ",at," with a place
unfoldable pub state_at : List ℕ → ℕ → Read State
state_at s at =
    if_ok (word_of s at (ascii ",free")) (λ n. Ok (State.Free, n))
    (λ _. if_ok (word_of s at (ascii ",kept")) (λ n. Ok (State.Kept, n))
    (λ _. word_of s at (ascii ",at,") >>= λ n. vec_at s n >>= λ v. Ok (State.Placed v.0, v.1)))

-- "p=", a start and a state
unfoldable pub point_line : List ℕ → ℕ → Read Point
point_line s at = do
  n ← word_of s at (ascii "p=")
  v ← vec_at s n
  t ← state_at s v.1
  end ← eat_of s t.1 10
  Ok (record { start = v.0; state = t.0 }, end)

-- "l=" and two point numbers
unfoldable pub line_line : List ℕ → ℕ → Read Line
line_line s at = do
  n ← word_of s at (ascii "l=")
  from ← whole_at s n
  to ← number_at s from.1
  end ← eat_of s to.1 10
  Ok (record { from = point_no from.0; to = point_no to.0 }, end)

-- "e=" and an equation
unfoldable pub equation_line : List ℕ → ℕ → Read Active
equation_line s at = do
  n ← word_of s at (ascii "e=")
  e ← equation_at s n
  end ← eat_of s e.1 10
  Ok (record { equation = e.0 }, end)

-- "m=" and a measure
unfoldable pub measure_line : List ℕ → ℕ → Read Measured
measure_line s at = do
  n ← word_of s at (ascii "m=")
  m ← measure_at s n
  end ← eat_of s m.1 10
  Ok (record { measure = m.0 }, end)
