-- Roots that the definition computes (01, "Both sides of the line", (g), (h) and (i)). Assumes nothing.
use Rattle.std.specs.Prelude.{◌≡◌, refl}
use Rattle.std.specs.Float.{binary64}
use Rattle.std.specs.Float.Ieee.{of_bits, to_bits}
use Rattle.root.specs.Root.{sqrt_of}

-- the root of 2
pub root-two : sqrt_of (of_bits binary64 0x4000_0000_0000_0000) ≡ of_bits binary64 0x3ff6_a09e_667f_3bcd
unfolding sqrt_of of_bits to_bits
root-two = refl

-- of the least subnormal, 2 ^ -1074
pub root-least : sqrt_of (of_bits binary64 1) ≡ of_bits binary64 0x1e60_0000_0000_0000
unfolding sqrt_of of_bits to_bits
root-least = refl

-- zero keeps its sign
pub root-zero : sqrt_of (of_bits binary64 0) ≡ of_bits binary64 0
unfolding sqrt_of of_bits
root-zero = refl

pub root-minus-zero : sqrt_of (of_bits binary64 0x8000_0000_0000_0000) ≡ of_bits binary64 0x8000_0000_0000_0000
unfolding sqrt_of of_bits
root-minus-zero = refl

-- +infinity is itself
pub root-infinite : sqrt_of (of_bits binary64 0x7ff0_0000_0000_0000) ≡ of_bits binary64 0x7ff0_0000_0000_0000
unfolding sqrt_of of_bits
root-infinite = refl
