-- No reply is longer than 8,192 bytes: line by line. Assumes nothing.
use mathlib.Core.Bool.{Bool, false}
use mathlib.Core.List.{List, []}
use mathlib.Core.Path.{◌≡◌}
use Prim.Native.Nat.{ℕ, zero, suc, ◌+◌, ◌*◌, ◌≤◌, min}
use native.Mathlib.Nat.{mul-le-mul_right, min-le_right}
use native.Mathlib.Omega.{arith}
use lib.Ieee.{Float}
use lib.ListN.{length, length-append, get_or}
use Rattle.answer.specs.Endings.{blank_group}
use Rattle.answer.specs.declared.Answer.{Answer}
use Rattle.answer.specs.declared.GroupFit.{GroupFit}
use Rattle.loops.proofs.Picks.{either}
use Rattle.sketch.specs.Check.{number_of}
use Rattle.sketch.specs.declared.Ending.{Ending}
use Rattle.sketch.specs.declared.Ending.TheVariants.{Fitted, TooLong, BadForm, TooMany, OutOfBounds, NoSuchItem, TooManyRows, NotConverged, TooShort}
use Rattle.spelling.proofs.Digits.{decimal-short, hexadecimal-long}
use Rattle.reply.specs.Figures.{comma, newline, whole, float}
use Rattle.reply.specs.Lines.{status_line, total_lines, group_line, failed_line, suspect_line, point_line, measure_line}
use Rattle.reply.specs.Reply.{rising, group_lines, output_lines, fitted_lines, mark_count, failed_lines, lines_after, reply_of}
use Rattle.reply.specs.Theorems.{NoneLonger}

whole-short : (n b : ℕ) → length (whole n b) ≤ 21
unfolding whole
whole-short n b = simp length-append (omega (arith, decimal-short 19 n))

float-long : (x : Float) (b : ℕ) → length (float x b) ≡ 17
unfolding float
float-long x b = simp (length-append, hexadecimal-long)

status-short : (e : Ending) → length (status_line e) ≤ 28
unfolding status_line
status-short e = omega (arith, whole-short (number_of e) newline)

totals-short : (a : Answer) → length (total_lines a) ≤ 80
unfolding total_lines
totals-short a = simp (length-append, float-long) (omega (arith, whole-short a.group_count newline, whole-short a.freedom newline))

group-short : (g : GroupFit) → length (group_line g) ≤ 86
unfolding group_line
group-short g =
    simp length-append
    (omega (arith, whole-short g.lowest comma, whole-short g.freedom comma, whole-short g.iterations comma, whole-short g.tries newline))

failed-short : (g : GroupFit) → length (failed_line g) ≤ 107
unfolding failed_line
failed-short g =
    simp length-append
    (omega (
      arith,
      whole-short g.lowest comma,
      whole-short g.iterations comma,
      whole-short g.tries comma,
      whole-short g.code comma,
      whole-short g.column newline,
    ))

suspect-short : (suspects : List Bool) (k : ℕ) → length (suspect_line suspects k) ≤ 23
unfolding suspect_line
suspect-short suspects k = either (λ l. length l ≤ 23) (get_or suspects k false) _ [] (omega (arith, whole-short k newline)) (omega arith)

point-short : (out : List Float) (i : ℕ) → length (point_line out i) ≤ 36
unfolding point_line
point-short out i = simp (length-append, float-long) (omega arith)

measure-short : (out : List Float) (k : ℕ) → length (measure_line out k) ≤ 19
unfolding measure_line
measure-short out k = simp float-long (omega arith)

rising-short : (f : ℕ → List ℕ) (k : ℕ) → ((i : ℕ) → length (f i) ≤ k) → (n : ℕ) → length (rising f n) ≤ n * k
unfolding rising
rising-short f k h zero = omega arith
rising-short f k h (suc n) = simp length-append (omega (arith, h n, rising-short f k h n))

-- as many as a bound says, of at most k bytes each
sorted-short : (f : ℕ → List ℕ) (k n bound : ℕ) → n ≤ bound → ((i : ℕ) → length (f i) ≤ k) → length (rising f n) ≤ bound * k
sorted-short f k n bound h l = omega (arith, rising-short f k l n, mul-le-mul_right k h)

after-short : (e : Ending) (a : Answer) (out : List Float) (p m : ℕ) → p ≤ 40 → m ≤ 20 → length (lines_after e a out p m) ≤ 5400
unfolding fitted_lines group_lines output_lines failed_lines
after-short Fitted a out p m h k =
    simp length-append
    (omega (
      arith,
      totals-short a,
      sorted-short (λ i. group_line (get_or a.groups i blank_group)) 86 (min a.group_count 40) 40 (min-le_right a.group_count 40) (λ i. group-short (get_or a.groups i blank_group)),
      sorted-short (point_line out) 36 p 40 h (point-short out),
      sorted-short (λ j. measure_line out (2 * p + j)) 19 m 20 k (λ j. measure-short out (2 * p + j)),
    ))
after-short NotConverged a out p m h k =
    simp length-append (omega (arith, failed-short (get_or a.groups 0 blank_group), rising-short (suspect_line a.suspects) 23 (suspect-short a.suspects) mark_count))
after-short TooLong a out p m h k = omega arith
after-short BadForm a out p m h k = omega arith
after-short TooMany a out p m h k = omega arith
after-short OutOfBounds a out p m h k = omega arith
after-short NoSuchItem a out p m h k = omega arith
after-short TooManyRows a out p m h k = omega arith
after-short TooShort a out p m h k = omega arith

pub short : NoneLonger
unfolding reply_of
short a out points measures =
    simp length-append
    (omega (arith, status-short a.ending, after-short a.ending a out (min points 40) (min measures 20) (min-le_right points 40) (min-le_right measures 20)))
