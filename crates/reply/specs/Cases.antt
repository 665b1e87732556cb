-- Document 01's example and the other two sorts of reply, as worked cases, which compute.
use Rattle.std.specs.Prelude.{true, false, List, [], ◌∷◌, ◌≡◌, refl, ℕ, Float, replicate}
use Rattle.std.specs.Float.{nan, binary64}
use Rattle.std.specs.Float.Ieee.{to_bits, of_bits}
use Rattle.answer.specs.Endings.{blank_group, refused_of, failed_of, fitted_of}
use Rattle.answer.specs.declared.Answer.{Answer}
use Rattle.floats.specs.Ops.{zero⁺, half, two}
use Rattle.sketch.specs.declared.Ending.{Ending}
use Rattle.spelling.specs.Letters.{ascii}
use Rattle.spelling.specs.Printed.{decimal, hex_digit, hexadecimal}
use Rattle.reply.specs.Figures.{newline, whole, float}
use Rattle.reply.specs.Lines.{status_line, total_lines, group_line, failed_line, suspect_line, point_line, measure_line}
use Rattle.reply.specs.Reply.{rising, group_lines, output_lines, fitted_lines, failed_lines, reply_of}

-- −2.0
two⁻ : Float
two⁻ = of_bits binary64 0xc000_0000_0000_0000

-- 01's example: one group, with one degree of freedom, which fits as it is
example : Answer
example = fitted_of 1 (record { lowest = 0; freedom = 1; iterations = 0; tries = 0; code = 0; column = 0 } ∷ replicate 39 blank_group) 3 zero⁺

example-out : List Float
example-out = zero⁺ ∷ zero⁺ ∷ two ∷ zero⁺ ∷ half ∷ two⁻ ∷ two ∷ []

the-example :
    reply_of example example-out 3 1 ≡ ascii "status=0\ngroups=1\nfreedom=3\nworst=0000000000000000\ng=0,1,0,0\nx=0000000000000000,0000000000000000\nx=4000000000000000,0000000000000000\nx=3fe0000000000000,c000000000000000\nm=4000000000000000\n"
unfolding two⁻ example example-out reply_of status_line total_lines group_line point_line measure_line rising group_lines output_lines fitted_lines decimal hex_digit hexadecimal whole float to_bits of_bits
the-example = refl

-- the group of point 3 does not converge, with code 2 and a column of two digits, so that each number is seen in its place, and
-- equations 1 and 12 are suspects
failure : Answer
failure =
    failed_of (record { lowest = 3; freedom = 0; iterations = 200; tries = 1024; code = 2; column = 11 })
    (false ∷ true ∷ false ∷ false ∷ false ∷ false ∷ false ∷ false ∷ false ∷ false ∷ false ∷ false ∷ true ∷ replicate 27 false)

a-failure : (out : List Float) (points measures : ℕ) → reply_of failure out points measures ≡ ascii "status=7\ng=3,200,1024,2,11\nc=1\nc=12\n"
unfolding failure reply_of status_line failed_line suspect_line rising failed_lines decimal whole
a-failure out points measures = refl

-- iterations spent has no column, and 0 is printed for it
no-column : failed_line (record { lowest = 0; freedom = 0; iterations = 200; tries = 611; code = 5; column = 0 }) ≡ ascii "g=0,200,611,5,0\n"
unfolding failed_line decimal whole
no-column = refl

-- the status line alone, whatever stands in the output
a-refusal : (out : List Float) (points measures : ℕ) → reply_of (refused_of Ending.TooManyRows) out points measures ≡ ascii "status=6\n"
unfolding reply_of status_line decimal whole
a-refusal out points measures = refl

-- a NaN has one spelling
a-nan : float nan newline ≡ ascii "7ff8000000000000\n"
unfolding float hex_digit hexadecimal to_bits
a-nan = refl
