-- Worked null spaces, computed from the definition. Numbers are written by their bits.
use Rattle.std.specs.Prelude.{ℕ, ◌≡◌, refl, Float}
use mathlib.Core.List.{List, [], ◌∷◌, zip_with}
use Rattle.std.specs.Float.{binary64}
use Rattle.std.specs.Float.Ieee.{of_bits, to_bits, is_nan, neg, add, sub, mul, div, lt, eq, ne, le}
use Rattle.floats.specs.Magnitude.{magnitude_of}
use Rattle.floats.specs.Ops.{zero⁺, one, two}
use Rattle.loops.specs.Turns.{turns, up_to, whiles, while_to}
use Rattle.root.specs.Root.{sqrt_of}
use Rattle.solver.specs.Sums.{add_square, norm2_of}
use Rattle.nullspace.specs.Steps.{push, collect, scaled_by, unit_of, unit_at, cols_of, dot_of, less_all, reflect_of, norm_of, longer, best_of, ended, swapped, away, reflector_of, reflect_from, turn_of, decomposed, reflect_by, basis_vector, basis_of}
use Rattle.nullspace.specs.Promise.{found_in}

abbrev bits : ℕ → Float
bits b = of_bits binary64 b

abbrev three : Float
three = bits 0x4008_0000_0000_0000

abbrev four : Float
four = bits 0x4010_0000_0000_0000

-- what is said below: the matrix of so many rows and columns has this rank and this basis
abbrev Found : ℕ → ℕ → List Float → ℕ → List (List Float) → Type 0
Found rows n m rank basis = found_in rows n m ≡ record { rank = rank; basis = basis }

-- The row 3, 4: its basis vector is −0.8, 0.6 but for the last bits. A row of zeros before it, which stays as it is and is passed over:
-- the other row is swapped to the front. Two rows that both count. And a row that is twice the one before it, which does not.
pub worked :
    Found 1 2 (three ∷ four ∷ []) 1 ((bits 0xbfe9_9999_9999_9999 ∷ bits 0x3fe3_3333_3333_3334 ∷ []) ∷ [])
    × Found 2 3 (zero⁺ ∷ zero⁺ ∷ zero⁺ ∷ zero⁺ ∷ three ∷ four ∷ []) 1 ((bits 0xbfe3_3333_3333_3333 ∷ bits 0x3fe4_7ae1_47ae_147b ∷ bits 0xbfde_b851_eb85_1eb8 ∷ []) ∷ (bits 0xbfe9_9999_9999_999a ∷ bits 0xbfde_b851_eb85_1eb8 ∷ bits 0x3fd7_0a3d_70a3_d708 ∷ []) ∷ [])
    × Found 2 3 (one ∷ one ∷ zero⁺ ∷ zero⁺ ∷ one ∷ one ∷ []) 2 ((bits 0x3fe2_79a7_4590_331c ∷ bits 0xbfe2_79a7_4590_331c ∷ bits 0x3fe2_79a7_4590_331c ∷ []) ∷ [])
    × Found 2 3 (one ∷ two ∷ three ∷ two ∷ four ∷ bits 0x4018_0000_0000_0000 ∷ []) 1 ((bits 0xbfe1_1ace_e560_242a ∷ bits 0x3fe8_c90c_2349_de2e ∷ bits 0xbfd5_a4db_9622_6577 ∷ []) ∷ (bits 0xbfe9_a836_5810_363f ∷ bits 0xbfd5_a4db_9622_6578 ∷ bits 0x3fdf_88b6_9ecc_67cc ∷ []) ∷ [])
unfolding basis_of basis_vector reflect_by decomposed turn_of reflect_from reflector_of away swapped ended best_of longer norm_of reflect_of less_all dot_of cols_of unit_at unit_of scaled_by collect push norm2_of add_square sqrt_of while_to whiles up_to turns zip_with magnitude_of is_nan to_bits of_bits neg add sub mul div lt eq ne le
worked = (refl, refl, refl, refl)
