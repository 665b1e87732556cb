-- Floats: sixteen small hexadecimal digits, the bits of a binary64 from the first digit down.
use Rattle.std.specs.Prelude.{◌&&◌, List, ℕ, zero, suc, ◌+◌, ◌*◌, ◌-◌, leb, Float, Option, Some, None, Ok, ok_or, if◌then◌else◌}
use Rattle.std.specs.Float.{binary64}
use Rattle.std.specs.Float.Ieee.{of_bits}
use Rattle.spelling.specs.Places.{Read, ◌>>=◌, byte_at}

-- what a digit stands for, 0 to 9 being the bytes 48 to 57 and 10 to 15 the bytes 97 to 102
unfoldable pub hex_of : ℕ → Option ℕ
hex_of b = if leb 48 b && leb b 57 then Some (b - 48) else if leb 97 b && leb b 102 then Some (b - 97 + 10) else None

-- the digit that stands there
unfoldable pub hex_at : List ℕ → ℕ → Read ℕ
hex_at s at = do
  b ← byte_at s at
  d ← ok_or (hex_of b) at
  Ok (d, at + 1)

-- so many digits
unfoldable pub digits_at : ℕ → List ℕ → ℕ → Read ℕ
digits_at zero s at = Ok (0, at)
digits_at (suc k) s at = do
  b ← digits_at k s at
  d ← hex_at s b.1
  Ok (16 * b.0 + d.0, d.1)

abbrev pub bits_at : List ℕ → ℕ → Read ℕ
bits_at = digits_at 16

-- the float that stands there: the one definition of a float in a text
unfoldable pub float_at : List ℕ → ℕ → Read Float
float_at s at = do
  b ← bits_at s at
  Ok (of_bits binary64 b.0, b.1)
