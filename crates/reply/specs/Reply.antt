-- The reply to a job, as a definition of its answer and its output (document 01, "The text"; document 02, K6): the status line, and
-- after a fit the totals, the groups, the points and the measures; after 7 the failing group with its reason, and its suspects;
-- otherwise no more.
use Rattle.std.specs.Prelude.{List, [], ◌++◌, ℕ, zero, suc, ◌+◌, ◌*◌, min, Float, get_or}
use Rattle.answer.specs.Endings.{blank_group}
use Rattle.answer.specs.declared.Answer.{Answer}
use Rattle.sketch.specs.declared.Ending.{Ending}
use Rattle.sketch.specs.declared.Ending.TheVariants.{Fitted, TooLong, BadForm, TooMany, OutOfBounds, NoSuchItem, TooManyRows, NotConverged, TooShort}
use Rattle.reply.specs.Lines.{status_line, total_lines, group_line, failed_line, suspect_line, point_line, measure_line}

-- f 0, f 1, .. as far as n, one after another
unfoldable pub rising : (ℕ → List ℕ) → ℕ → List ℕ
rising f zero = []
rising f (suc n) = rising f n ++ f n

-- at most as many as an answer holds
unfoldable pub group_lines : Answer → List ℕ
group_lines a = rising (λ i. group_line (get_or a.groups i blank_group)) (min a.group_count 40)

-- the output holds p points, then m measures
unfoldable pub output_lines : List Float → ℕ → ℕ → List ℕ
output_lines out p m = rising (point_line out) p ++ rising (λ j. measure_line out (2 * p + j)) m

unfoldable pub fitted_lines : Answer → List Float → ℕ → ℕ → List ℕ
fitted_lines a out p m = total_lines a ++ group_lines a ++ output_lines out p m

-- so many equations an answer may mark as suspects
abbrev pub mark_count : ℕ
mark_count = 40

unfoldable pub failed_lines : Answer → List ℕ
failed_lines a = failed_line (get_or a.groups 0 blank_group) ++ rising (suspect_line a.suspects) mark_count

abbrev pub lines_after : Ending → Answer → List Float → ℕ → ℕ → List ℕ
lines_after Fitted a out p m = fitted_lines a out p m
lines_after NotConverged a out p m = failed_lines a
lines_after TooLong a out p m = []
lines_after BadForm a out p m = []
lines_after TooMany a out p m = []
lines_after OutOfBounds a out p m = []
lines_after NoSuchItem a out p m = []
lines_after TooManyRows a out p m = []
lines_after TooShort a out p m = []

-- a job has at most 40 points and 20 measures, so no more are printed
unfoldable pub reply_of : Answer → List Float → ℕ → ℕ → List ℕ
reply_of a out points measures = status_line a.ending ++ lines_after a.ending a out (min points 40) (min measures 20)
