-- The number on the first line of a reply is that of the ending. Assumes nothing.
use mathlib.Core.List.{List, [], ◌∷◌, ◌++◌, append_assoc}
use mathlib.Core.Logic.{◌↔◌}
use mathlib.Core.Path.{◌≡◌, sym, ap, ◌∙◌}
use Prim.Native.Nat.{ℕ, ◌+◌, ◌≤◌, ◌<◌, min}
use native.Mathlib.Omega.{arith}
use borrow.Author.Tests.{le-leb}
use lib.Ieee.{Float}
use lib.ListN.{length, get_or, drop}
use Rattle.answer.specs.declared.Answer.{Answer}
use Rattle.reply.proofs.Short.{short}
use Rattle.reply.specs.Figures.{newline, whole}
use Rattle.reply.specs.Lines.{status_line}
use Rattle.reply.specs.Promise.{written_of}
use Rattle.reply.specs.Reply.{lines_after, reply_of}
use Rattle.sketch.specs.Check.{number_of}
use Rattle.sketch.specs.declared.Ending.{Ending}
use Rattle.sketch.specs.declared.Ending.TheVariants.{Fitted, TooLong, BadForm, TooMany, OutOfBounds, NoSuchItem, TooManyRows, NotConverged, TooShort}
use Rattle.spelling.proofs.Digits.{decimal-one}
use Rattle.spelling.specs.Letters.{ascii}
use Rattle.run.specs.Texts.{Says}

one-digit : (e : Ending) → number_of e < 10
one-digit Fitted = omega arith
one-digit TooLong = omega arith
one-digit BadForm = omega arith
one-digit TooMany = omega arith
one-digit OutOfBounds = omega arith
one-digit NoSuchItem = omega arith
one-digit TooManyRows = omega arith
one-digit NotConverged = omega arith
one-digit TooShort = omega arith

digit : (n : ℕ) → n < 10 → whole n newline ≡ (48 + n) ∷ 10 ∷ []
unfolding whole
digit n h = rw (decimal-one 19 n h)

line_of : ℕ → List ℕ → List ℕ
line_of n l = ascii "status=" ++ whole n newline ++ l

line-is : (n : ℕ) (l : List ℕ) → n < 10 → line_of n l ≡ ascii "status=" ++ ((48 + n) ∷ 10 ∷ l)
unfolding line_of
line-is n l h = rw (digit n h)

same_line : (n k : ℕ) (l m : List ℕ) → n < 10 → k < 10 → line_of n l ≡ line_of k m → n ≡ k
same_line n k l m h i e =
    let at : 48 + n ≡ 48 + k = ap (λ b. get_or b 7 0) (sym (line-is n l h) ∙ e ∙ line-is k m i) in
    omega arith

module _ (a : Answer) (out : List Float) (points measures : ℕ) (reply : List ℕ) (room : 8192 ≤ length reply) where
  abbrev bytes : List ℕ
  bytes = reply_of a out points measures

  laid-down : (bs : List ℕ) → length bs ≤ 8192 → written_of bs reply ≡ bs ++ drop (length bs) reply
  unfolding written_of
  laid-down bs h = rw (le-leb (length bs) (length reply) (omega arith))

  -- the whole reply stands at the head of the slice
  pub laid : written_of bytes reply ≡ bytes ++ drop (length bytes) reply
  laid = laid-down bytes (short a out points measures)

  first-line : (rest : List ℕ) × (written_of bytes reply ≡ line_of (number_of a.ending) rest)
  unfolding reply_of status_line line_of
  first-line =
      let l = lines_after a.ending a out (min points 40) (min measures 20) in
      let d = drop (length bytes) reply in
      (l ++ d, laid ∙ append_assoc (status_line a.ending) l d)

  pub says-exactly : (k : ℕ) → k < 10 → Says (written_of bytes reply) k ↔ number_of a.ending ≡ k
  unfolding line_of
  says-exactly k h = (
    λ t. same_line (number_of a.ending) k first-line.0 t.0 (one-digit a.ending) h (sym first-line.1 ∙ t.1),
    λ e. (first-line.0, first-line.1 ∙ ap (λ n. line_of n first-line.0) e),
  )
