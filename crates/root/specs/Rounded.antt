-- What it is to be the correctly rounded root, over whole numbers (01, "Port order", 1). Definitions only.
use Rattle.std.specs.Prelude.{◌+◌, ◌*◌, ◌^◌, ◌<◌, T, Float}
use Rattle.std.specs.Float.{binary64}
use Rattle.std.specs.Float.Ieee.{fits, to_bits}
use Rattle.std.specs.Float.Ieee.Scale.{finite}
use Rattle.root.specs.Root.{count, halfway}

-- r is the root of x, rounded to the nearest: finite, a value of the format, and with x between the squares of its halfway points, over whole numbers.
-- The halfway points are in units of 2 ^ -1075 and x in units of 2 ^ -1074. Both are strict, so that no tie occurs.
pub record Rounded (x r : Float) : Type 0 where
  pub is_finite : T (finite r)
  pub in-format : T (fits binary64 r)
  pub lower : halfway (to_bits binary64 r) * halfway (to_bits binary64 r) < count (to_bits binary64 x) * 2 ^ 1076
  pub upper : count (to_bits binary64 x) * 2 ^ 1076 < halfway (to_bits binary64 r + 1) * halfway (to_bits binary64 r + 1)
