-- The four operations of `f64`, each rounded once to binary64, under operators of their own, and the numbers that
-- the Rust writes out, by their bits.
use Rattle.std.specs.Prelude.{Float}
use Rattle.std.specs.Float.{binary64}
use Rattle.std.specs.Float.Ieee.{add, sub, mul, div, of_bits}

infixl 60 ◌⊕◌
infixl 60 ◌⊖◌
infixl 70 ◌⊗◌
infixl 70 ◌⊘◌
abbrev pub ◌⊕◌ : Float → Float → Float
x ⊕ y = add binary64 x y

abbrev pub ◌⊖◌ : Float → Float → Float
x ⊖ y = sub binary64 x y

abbrev pub ◌⊗◌ : Float → Float → Float
x ⊗ y = mul binary64 x y

abbrev pub ◌⊘◌ : Float → Float → Float
x ⊘ y = div binary64 x y

-- +0.0, where a place of a dense row starts
abbrev pub zero⁺ : Float
zero⁺ = of_bits binary64 0

-- −0.0, where a sum starts
abbrev pub zero⁻ : Float
zero⁻ = of_bits binary64 0x8000_0000_0000_0000

abbrev pub one : Float
one = of_bits binary64 0x3ff0_0000_0000_0000

-- −1.0
abbrev pub one⁻ : Float
one⁻ = of_bits binary64 0xbff0_0000_0000_0000

abbrev pub two : Float
two = of_bits binary64 0x4000_0000_0000_0000

abbrev pub ten : Float
ten = of_bits binary64 0x4024_0000_0000_0000

abbrev pub half : Float
half = of_bits binary64 0x3fe0_0000_0000_0000

-- 0.1
abbrev pub tenth : Float
tenth = of_bits binary64 0x3fb9_9999_9999_999a

abbrev pub million : Float
million = of_bits binary64 0x412e_8480_0000_0000

-- 1/1024
abbrev pub 1/1024 : Float
1/1024 = of_bits binary64 0x3f50_0000_0000_0000

abbrev pub 1e-8 : Float
1e-8 = of_bits binary64 0x3e45_798e_e230_8c3a

abbrev pub 1e-10 : Float
1e-10 = of_bits binary64 0x3ddb_7cdf_d9d7_bdbb

abbrev pub 1e-12 : Float
1e-12 = of_bits binary64 0x3d71_9799_812d_ea11

abbrev pub 1e-15 : Float
1e-15 = of_bits binary64 0x3cd2_03af_9ee7_5616

abbrev pub 1e-300 : Float
1e-300 = of_bits binary64 0x01a5_6e1f_c2f8_f359
