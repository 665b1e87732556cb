-- What holds of every reply, proved in proofs/.
use Rattle.std.specs.Prelude.{Bool, true, false, cond, ◌↔◌, ◌≢◌, ◌≡◌, ℕ, ◌+◌, ◌≤◌, ◌<◌, Float, length, get_or}
use mathlib.Core.List.{List, [], ◌∷◌, ◌++◌, flat_map, Pairwise, Mem}
use Rattle.std.specs.Float.{binary64}
use Rattle.std.specs.Float.Ieee.{to_bits}
use Rattle.answer.specs.declared.Answer.{Answer}
use Rattle.answer.specs.declared.GroupFit.{GroupFit}
use Rattle.sketch.specs.Check.{number_of}
use Rattle.sketch.specs.declared.Ending.TheVariants.{Fitted}
use Rattle.spelling.specs.Letters.{ascii}
use Rattle.spelling.specs.Printed.{whole_text, float_text}
use Rattle.reply.specs.Figures.{comma, newline, whole, float}
use Rattle.reply.specs.Reply.{reply_of}

-- ---- what is printed (document 01, "The text"; document 02, K6), said by lists and not by the places of arrays: `prints-fit`,
-- `prints-failure`, `suspects-are` and `prints-number` (proofs/Printed.antt)

-- "A `g` line is lowest point, freedom, iterations, tries"
abbrev pub g_line : GroupFit → List ℕ
g_line g = ascii "g=" ++ whole g.lowest comma ++ whole g.freedom comma ++ whole g.iterations comma ++ whole g.tries newline

abbrev pub x_line : Float × Float → List ℕ
x_line p = ascii "x=" ++ float p.0 comma ++ float p.1 newline

abbrev pub m_line : Float → List ℕ
m_line m = ascii "m=" ++ float m newline

abbrev pub c_line : ℕ → List ℕ
c_line k = ascii "c=" ++ whole k newline

-- the numbers of a point, as they stand in the output
abbrev pub two_of : Float × Float → List Float
two_of p = p.0 ∷ p.1 ∷ []

-- 0: the totals, then a `g` line for each group, an `x` line for each point and an `m` line for each measure, in their order. The
-- groups stand at the head of the answer's, and the output holds the points, then the measures.
abbrev pub PrintsFit : Type 0
PrintsFit = (a : Answer) (groups unused : List GroupFit) (points : List (Float × Float)) (measures past : List Float)
    → number_of a.ending ≡ 0
    → a.groups ≡ groups ++ unused → a.group_count ≡ length groups
    → length groups ≤ 40 → length points ≤ 40 → length measures ≤ 20
    → reply_of a (flat_map two_of points ++ (measures ++ past)) (length points) (length measures)
    ≡ ascii "status=0\n"
    ++ ascii "groups=" ++ whole (length groups) newline
    ++ ascii "freedom=" ++ whole a.freedom newline
    ++ ascii "worst=" ++ float a.worst newline
    ++ flat_map g_line groups
    ++ flat_map x_line points
    ++ flat_map m_line measures

-- the numbers of the places that are marked, where the first place is k
unfoldable pub suspects_from : ℕ → List Bool → List ℕ
suspects_from k [] = []
suspects_from k (b ∷ marks) = cond b (k ∷ suspects_from (k + 1) marks) (suspects_from (k + 1) marks)

abbrev pub suspects_in : List Bool → List ℕ
suspects_in marks = suspects_from 0 marks

-- they rise, so that each stands there once, and k is one of them exactly when place k is marked
pub record SuspectsAre (marks : List Bool) : Type 0 where
  pub rise : Pairwise ◌<◌ (suspects_in marks)
  pub exactly : (k : ℕ) → Mem k (suspects_in marks) ↔ get_or marks k false ≡ true

-- 7: one `g` line of the answer's first group, its lowest point, iterations and tries, its code and its column ("The `g` line on 7
-- gains a code 1 to 5 in that order and the column counted from 1, or 0 for none"), and a `c` line for each of the 40 equations
-- that is marked
abbrev pub PrintsFailure : Type 0
PrintsFailure = (a : Answer) (failing : GroupFit) (unused : List GroupFit) (out : List Float) (points measures : ℕ)
    → number_of a.ending ≡ 7
    → a.groups ≡ failing ∷ unused → length a.suspects ≡ 40
    → reply_of a out points measures
    ≡ ascii "status=7\n"
    ++ ascii "g=" ++ whole failing.lowest comma ++ whole failing.iterations comma ++ whole failing.tries comma
    ++ whole failing.code comma ++ whole failing.column newline
    ++ flat_map c_line (suspects_in a.suspects)

-- any other number: the status line alone
abbrev pub PrintsNumber : Type 0
PrintsNumber = (a : Answer) (out : List Float) (points measures : ℕ) → number_of a.ending ≢ 0 → number_of a.ending ≢ 7
    → reply_of a out points measures ≡ ascii "status=" ++ whole (number_of a.ending) newline

-- ---- every reply

-- no reply is longer than 8,192 bytes, whatever the answer, so a slice with that room has room for every reply
abbrev pub NoneLonger : Type 0
NoneLonger = (a : Answer) (out : List Float) (points measures : ℕ) → length (reply_of a out points measures) ≤ 8192

-- the reply of a job that is not fitted is the same for every output
abbrev pub NoCoordinates : Type 0
NoCoordinates = (a : Answer) (out out' : List Float) (p p' m m' : ℕ) → a.ending ≢ Fitted → reply_of a out p m ≡ reply_of a out' p' m'

-- numbers are spelled as a job spells them, so that spelling's `whole-reads` and `float-reads` read them back
pub record AsInAJob : Type 0 where
  pub wholes : (n b : ℕ) → n < 100000 → whole n b ≡ whole_text n ++ b ∷ []
  pub floats : (x : Float) (b : ℕ) → float x b ≡ float_text (to_bits binary64 x) ++ b ∷ []
