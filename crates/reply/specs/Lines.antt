-- The lines of a reply (document 01, "The text"; document 02, K6).
use Rattle.std.specs.Prelude.{Bool, false, cond, List, [], ◌++◌, ℕ, ◌+◌, ◌*◌, Float, get_or}
use Rattle.std.specs.Float.{nan}
use Rattle.answer.specs.declared.Answer.{Answer}
use Rattle.answer.specs.declared.GroupFit.{GroupFit}
use Rattle.sketch.specs.Check.{number_of}
use Rattle.sketch.specs.declared.Ending.{Ending}
use Rattle.spelling.specs.Letters.{ascii}
use Rattle.reply.specs.Figures.{comma, newline, whole, float}

unfoldable pub status_line : Ending → List ℕ
status_line e = ascii "status=" ++ whole (number_of e) newline

-- the three lines after a fit's status
unfoldable pub total_lines : Answer → List ℕ
total_lines a =
    ascii "groups=" ++ whole a.group_count newline
    ++ ascii "freedom=" ++ whole a.freedom newline
    ++ ascii "worst=" ++ float a.worst newline

-- "A `g` line is lowest point, freedom, iterations, tries"
unfoldable pub group_line : GroupFit → List ℕ
group_line g =
    ascii "g=" ++ whole g.lowest comma ++ whole g.freedom comma ++ whole g.iterations comma ++ whole g.tries newline

-- "On 7: .. one `g` line of lowest point, iterations, tries"; "The `g` line on 7 gains a code 1 to 5 in that order and the column
-- counted from 1, or 0 for none"
unfoldable pub failed_line : GroupFit → List ℕ
failed_line g =
    ascii "g=" ++ whole g.lowest comma ++ whole g.iterations comma ++ whole g.tries comma ++ whole g.code comma ++ whole g.column newline

-- equation k's, where it is a suspect
unfoldable pub suspect_line : List Bool → ℕ → List ℕ
suspect_line suspects k = cond (get_or suspects k false) (ascii "c=" ++ whole k newline) []

-- point i's two numbers in the output
unfoldable pub point_line : List Float → ℕ → List ℕ
point_line out i = ascii "x=" ++ float (get_or out (2 * i) nan) comma ++ float (get_or out (2 * i + 1) nan) newline

-- the measure that stands at k in the output
unfoldable pub measure_line : List Float → ℕ → List ℕ
measure_line out k = ascii "m=" ++ float (get_or out k nan) newline
