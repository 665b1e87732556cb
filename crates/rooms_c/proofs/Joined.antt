-- From what reading and the job promise to the promise of the call on a text. Assumes nothing.
use Prim.Native.Nat.{ℕ}
use mathlib.Core.List.{List}
use mathlib.Core.Path.{◌≡◌, ◌∙◌}
use lib.Ieee.{Float}
use Rattle.std.specs.Prelude.{Ok, Err}
use Rattle.answer.specs.declared.Answer.{Answer}
use Rattle.job.specs.Promise.{Does}
use Rattle.sketch.specs.Check.{number_of}
use Rattle.sketch.specs.declared.Build.{Build}
use Rattle.sketch.specs.declared.Ending.{Ending}
use Rattle.text.specs.Reader.{read_of}
use Rattle.rooms_c.specs.Jobs.{SolvesText}

module _ (out p q r out' p' q' r' : List Float) (n : ℕ) (s : List ℕ) where
  pub read-solved : (b : Build) (a : Answer) → Ok b ≡ read_of s → Does b out p q r out' p' q' r' a → n ≡ number_of a.ending
      → SolvesText out p q r s out' p' q' r' n
  read-solved b a h d e = record {
    number = rw (← h) (e ∙ rw d.answer);
    output = rw (← h) d.output;
    first = rw (← h) d.first;
    second = rw (← h) d.second;
    third = rw (← h) d.third;
  }

pub refused-solved : (out p q r : List Float) (n : ℕ) (s : List ℕ) (e : Ending) → Err e ≡ read_of s → n ≡ number_of e
    → SolvesText out p q r s out p q r n
refused-solved out p q r n s e h k = record {
  number = rw (← h) k;
  output = rw (← h);
  first = rw (← h);
  second = rw (← h);
  third = rw (← h);
}
