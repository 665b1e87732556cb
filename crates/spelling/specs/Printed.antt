-- How whole numbers and floats are written (document 01, "The text"), apart from how they are read.
use Rattle.std.specs.Prelude.{cond, List, [], ◌∷◌, ◌++◌, ℕ, zero, suc, ◌+◌, ◌/◌, ◌%◌, ltb}

-- the decimal digits of n, at most k + 1 of them, with no zero in front of others
unfoldable pub decimal : ℕ → ℕ → List ℕ
decimal zero n = (48 + n) ∷ []
decimal (suc k) n = cond (ltb n 10) ((48 + n) ∷ []) (decimal k (n / 10) ++ (48 + n % 10) ∷ [])

-- a whole number: one to five digits
abbrev pub whole_text : ℕ → List ℕ
whole_text n = decimal 4 n

-- 0 to 9 and a to f
unfoldable pub hex_digit : ℕ → ℕ
hex_digit d = cond (ltb d 10) (48 + d) (87 + d)

-- the last k hexadecimal digits of b
unfoldable pub hexadecimal : ℕ → ℕ → List ℕ
hexadecimal zero b = []
hexadecimal (suc k) b = hexadecimal k (b / 16) ++ hex_digit (b % 16) ∷ []

-- a float, by the pattern of its bits: sixteen digits
abbrev pub float_text : ℕ → List ℕ
float_text b = hexadecimal 16 b
