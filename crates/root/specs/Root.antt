-- IEEE 754's square root at binary64, rounded to the nearest value (01, "Port order", 1). Definitions only.
-- Patterns are in the order of their values: the neighbours of a positive value's pattern b are b - 1 and b + 1, also where the distance changes.
use Rattle.std.specs.Prelude.{ℕ, zero, suc, ◌+◌, ◌-◌, ◌*◌, ◌/◌, ◌%◌, ◌^◌, Bool, true, false, cond, ltb, Float}
use Rattle.std.specs.Float.{nan, inf, fin, binary64}
use Rattle.std.specs.Float.Ieee.{of_bits, to_bits}

-- the value of an exponent's field e with the digits t, in units of the least value, 2 ^ -1074
unfoldable pub scaled : ℕ → ℕ → ℕ
scaled zero t = t
scaled (suc e) t = (2 ^ 52 + t) * 2 ^ e

-- the value of a pattern whose sign is clear, in the same units
unfoldable pub count : ℕ → ℕ
unfolding scaled
count b = scaled (b / 2 ^ 52) (b % 2 ^ 52)

-- the point halfway between b and its lower neighbour, in units of 2 ^ -1075
unfoldable pub halfway : ℕ → ℕ
unfolding count
halfway b = count (b - 1) + count b

-- whether that point, squared, is below y
unfoldable pub below : ℕ → ℕ → Bool
unfolding halfway
below y b = ltb (halfway b * halfway b) y

-- a with its lowest k bits, which are clear, set from the top: a bit stays where the pattern's halfway point, squared, is then still below y
unfoldable pub set_bits : ℕ → ℕ → ℕ → ℕ
unfolding below
set_bits zero y a = a
set_bits (suc k) y a = set_bits k y (cond (below y (a + 2 ^ k)) (a + 2 ^ k) a)

-- the largest pattern whose point halfway to its lower neighbour, squared, is below y, which is in units of 2 ^ -2150
unfoldable pub root_bits : ℕ → ℕ
unfolding set_bits
root_bits y = set_bits 63 y 0

-- Zero keeps its sign, +infinity is itself, NaN and negatives give NaN. A positive x is count x units of 2 ^ -1074, and 2 ^ 1076 times that of 2 ^ -2150.
unfoldable pub sqrt_of : Float → Float
unfolding root_bits
sqrt_of nan = nan
sqrt_of (inf s) = cond s nan (inf s)
sqrt_of (fin s zero e) = fin s zero e
sqrt_of (fin true (suc m) e) = nan
sqrt_of (fin false (suc m) e) = of_bits binary64 (root_bits (count (to_bits binary64 (fin false (suc m) e)) * 2 ^ 1076))
