-- The reply of a job that is not fitted is the same for every output: ending by ending. Assumes nothing.
use mathlib.Core.List.{List, ◌++◌}
use mathlib.Core.Logic.{◌≢◌}
use mathlib.Core.Path.{◌≡◌, refl, ap}
use Prim.Native.Nat.{ℕ, min}
use lib.Ieee.{Float}
use Rattle.answer.specs.declared.Answer.{Answer}
use Rattle.sketch.specs.declared.Ending.{Ending}
use Rattle.sketch.specs.declared.Ending.TheVariants.{Fitted, TooLong, BadForm, TooMany, OutOfBounds, NoSuchItem, TooManyRows, NotConverged, TooShort}
use Rattle.reply.specs.Lines.{status_line}
use Rattle.reply.specs.Reply.{lines_after, reply_of}
use Rattle.reply.specs.Theorems.{NoCoordinates}

bare-after : (e : Ending) (a : Answer) (out out' : List Float) (p p' m m' : ℕ) → e ≢ Fitted → lines_after e a out p m ≡ lines_after e a out' p' m'
bare-after Fitted a out out' p p' m m' h = absurd (h refl)
bare-after NotConverged a out out' p p' m m' h = refl
bare-after TooLong a out out' p p' m m' h = refl
bare-after BadForm a out out' p p' m m' h = refl
bare-after TooMany a out out' p p' m m' h = refl
bare-after OutOfBounds a out out' p p' m m' h = refl
bare-after NoSuchItem a out out' p p' m m' h = refl
bare-after TooManyRows a out out' p p' m m' h = refl
bare-after TooShort a out out' p p' m m' h = refl

pub prints-no-coordinates : NoCoordinates
unfolding reply_of
prints-no-coordinates a out out' p p' m m' h =
    ap (λ l. status_line a.ending ++ l) (bare-after a.ending a out out' (min p 40) (min p' 40) (min m 20) (min m' 20) h)
