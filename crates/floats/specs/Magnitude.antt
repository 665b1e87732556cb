-- Magnitudes of floats: without their sign, in order by their bits, and the larger of two as Rust's `f64::max` has it.
-- Finite is lib.Ieee.Scale's `finite`.
use Rattle.std.specs.Prelude.{◌≡◌, refl, cond, false, ◌||◌, ℕ}
use lib.Ieee.{Float, nan, inf, fin, binary64, lt, is_nan, to_bits}

-- `f64::abs`: the sign is dropped and nothing else changes
abbrev pub abs_of : Float → Float
abs_of nan = nan
abs_of (inf s) = inf false
abs_of (fin s m e) = fin false m e

-- The place of x in the order of magnitudes: `total_cmp` on `abs`, as whole numbers by their bits.
unfoldable pub magnitude_of : Float → ℕ
magnitude_of x = to_bits binary64 (abs_of x)

-- document 01, "Float rules": in every ordering a NaN counts as 7ff8000000000000, above infinity
pub nan-counts : magnitude_of nan ≡ 0x7ff8_0000_0000_0000
unfolding magnitude_of to_bits
nan-counts = refl

pub infinity-counts : magnitude_of (inf false) ≡ 0x7ff0_0000_0000_0000
unfolding magnitude_of to_bits
infinity-counts = refl

-- `a.max(b)`: the larger one; a NaN is skipped, and of equals the first stays
unfoldable pub max_of : Float → Float → Float
max_of a b = cond (lt a b || is_nan a) b a
