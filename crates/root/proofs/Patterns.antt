-- Which patterns and floats are no NaN. Assumes nothing.
use mathlib.Core.Path.{subst⁻¹}
use mathlib.Core.Bool.{Bool, not}
use Prim.Native.Nat.{ℕ, ◌%◌, ◌≤◌}
use native.Mathlib.Omega.{arith}
use lib.Dec.{T}
use lib.Arith.{le→nltb}
use lib.Ieee.{binary64, nan_bits}
use lib.Ieee.Bits.{nan_bits_above}

pub no_nan : (b : ℕ) → b ≤ 0x7ff0_0000_0000_0000 → T (not (nan_bits binary64 b))
no_nan b h =
    let small : b % 0x8000_0000_0000_0000 ≤ 0x7ff0_0000_0000_0000 = omega arith in
    subst⁻¹ (λ (n : Bool). T (not n)) (nan_bits_above binary64 b) (le→nltb _ _ small)
