-- How a number is spelled in a reply, with the byte after it (document 01, "The text"): by spelling's definitions, as in a job.
use Rattle.std.specs.Prelude.{List, [], ◌∷◌, ◌++◌, ℕ, Float}
use Rattle.std.specs.Float.{binary64}
use Rattle.std.specs.Float.Ieee.{to_bits}
use Rattle.spelling.specs.Printed.{decimal, float_text}

abbrev pub comma : ℕ
comma = 44

abbrev pub newline : ℕ
newline = 10

-- a usize has at most twenty digits
unfoldable pub whole : ℕ → ℕ → List ℕ
whole n b = decimal 19 n ++ b ∷ []

-- a NaN's bits are 7ff8000000000000
unfoldable pub float : Float → ℕ → List ℕ
float x b = float_text (to_bits binary64 x) ++ b ∷ []
