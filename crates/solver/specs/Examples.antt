-- Worked eliminations, computed from the definitions. Numbers are written by their bits.
use Rattle.std.specs.Prelude.{false, [], ◌∷◌, ◌≡◌, refl, Float}
use Rattle.std.specs.Float.{nan, inf, binary64}
use Rattle.std.specs.Float.Ieee.{of_bits, to_bits, is_nan, add, sub, mul, div, lt, eq, le}
use Rattle.floats.specs.Lists.{swap_at}
use Rattle.floats.specs.Ops.{zero⁺, zero⁻, half, one}
use Rattle.floats.specs.Magnitude.{magnitude_of, max_of}
use Rattle.loops.specs.Turns.{go, turns, up_to, down_to, tries, try_to}
use Rattle.solver.specs.Lesser.{part_swapped, lesser_swapped, lesser_column, lesser_eliminated}
use Rattle.solver.specs.Reasons.{some, no_pivot, not_finite, columns_from, if_finite, reasoned_of}
use Rattle.solver.specs.Steps.{Sys, sys, scale_of, larger_row, pivot_of, swap_column, swapped, less_at, less_row, row_of, below_of, singular, column_of, eliminated_of, add_term, sum_of, back_at, back_of, all_finite, solution_of}

abbrev three : Float
three = of_bits binary64 0x4008_0000_0000_0000

abbrev four : Float
four = of_bits binary64 0x4010_0000_0000_0000

-- Document 01's (k): [[0, 1], [1, 0]] with 3, 4 gives 4, 3. And a sum starts from −0.0: the only row of a 1 × 1 system is less an
-- empty sum, and −0.0 − −0.0 is +0.0, while −0.0 − +0.0 would be −0.0.
pub worked :
    (solution_of 2 (zero⁺ ∷ one ∷ one ∷ zero⁺ ∷ []) (three ∷ four ∷ []) ≡ go (four ∷ three ∷ []))
    × (solution_of 1 (one ∷ []) (zero⁻ ∷ []) ≡ go (zero⁺ ∷ []))
unfolding solution_of all_finite back_of back_at sum_of add_term eliminated_of column_of singular below_of row_of less_row less_at swapped swap_column swap_at pivot_of larger_row scale_of try_to tries down_to up_to turns max_of magnitude_of is_nan to_bits of_bits add sub mul div lt eq le
worked = (refl, refl)

abbrev largest : Float
largest = of_bits binary64 0x7fef_ffff_ffff_ffff

-- Why there is none. A zero matrix has no pivot in its first column, one with two equal rows none in its second. An infinite entry makes the
-- scale infinite, and every number is at most that: there is no pivot in the first column. A NaN is not at most anything, so it is a
-- pivot, and what it divides is not finite; nor is what overflows.
pub reasons :
    (reasoned_of 1 (zero⁺ ∷ []) (one ∷ []) ≡ no_pivot 1)
    × (reasoned_of 2 (one ∷ one ∷ one ∷ one ∷ []) (one ∷ one ∷ []) ≡ no_pivot 2)
    × (reasoned_of 2 (one ∷ inf false ∷ one ∷ one ∷ []) (one ∷ one ∷ []) ≡ no_pivot 1)
    × (reasoned_of 1 (nan ∷ []) (one ∷ []) ≡ not_finite)
    × (reasoned_of 1 (half ∷ []) (largest ∷ []) ≡ not_finite)
unfolding reasoned_of columns_from if_finite back_of back_at sum_of add_term column_of singular below_of row_of less_row less_at swapped swap_column swap_at pivot_of larger_row scale_of down_to up_to turns max_of magnitude_of is_nan to_bits of_bits add sub mul div lt eq le
reasons = (refl, refl, refl, refl, refl)

abbrev crossed : Sys
crossed = sys (one ∷ zero⁺ ∷ zero⁺ ∷ zero⁻ ∷ zero⁺ ∷ one ∷ zero⁺ ∷ one ∷ zero⁺ ∷ []) (one ∷ three ∷ four ∷ [])

-- Two rows change places in the second column: the definition takes along what lies left of it, −0.0 and +0.0, the code leaves it.
pub left_behind :
    (eliminated_of 3 crossed
    ≡ go (sys (one ∷ zero⁺ ∷ zero⁺ ∷ zero⁺ ∷ one ∷ zero⁺ ∷ zero⁻ ∷ zero⁺ ∷ one ∷ []) (one ∷ four ∷ three ∷ [])))
    × (lesser_eliminated 3 crossed
    ≡ some (sys (one ∷ zero⁺ ∷ zero⁺ ∷ zero⁻ ∷ one ∷ zero⁺ ∷ zero⁺ ∷ zero⁺ ∷ one ∷ []) (one ∷ four ∷ three ∷ [])))
unfolding eliminated_of lesser_eliminated columns_from column_of lesser_column singular below_of row_of less_row less_at swapped lesser_swapped part_swapped swap_column swap_at pivot_of larger_row scale_of try_to tries up_to turns max_of magnitude_of is_nan to_bits of_bits add sub mul div lt eq le
left_behind = (refl, refl)
