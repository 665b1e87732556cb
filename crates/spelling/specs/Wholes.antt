-- Whole numbers: one to five decimal digits, and no zero in front of others.
use Rattle.std.specs.Prelude.{◌&&◌, List, ℕ, zero, suc, ◌+◌, ◌*◌, ◌-◌, leb, Option, Some, None, Ok, Err, ok_or, if◌then◌else◌}
use Rattle.spelling.specs.Places.{Read, ◌>>=◌, byte_at}

-- what a digit stands for, 0 to 9 being the bytes 48 to 57
unfoldable pub digit_of : ℕ → Option ℕ
digit_of b = if leb 48 b && leb b 57 then Some (b - 48) else None

-- the digit that stands there
unfoldable pub digit_at : List ℕ → ℕ → Read ℕ
digit_at s at = do
  b ← byte_at s at
  d ← ok_or (digit_of b) at
  Ok (d, at + 1)

-- one digit more, where one stands there; nothing goes on from 0, nor from five digits
abbrev pub longer : ℕ × ℕ → Read ℕ → ℕ × ℕ
longer n (Err e) = n
longer n (Ok d) = if leb 1 n.0 && leb n.0 9999 then (10 * n.0 + d.0, d.1) else n

unfoldable pub more_of : List ℕ → ℕ × ℕ → ℕ × ℕ
more_of s n = longer n (digit_at s n.1)

unfoldable pub more_digits : ℕ → List ℕ → ℕ × ℕ → ℕ × ℕ
more_digits zero s n = n
more_digits (suc k) s n = more_of s (more_digits k s n)

unfoldable pub whole_at : List ℕ → ℕ → Read ℕ
whole_at s at = do
  d ← digit_at s at
  Ok (more_digits 4 s d)
