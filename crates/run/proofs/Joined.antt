-- From what reading, the job and writing promise to the promise of a run. Assumes nothing.
use Prim.Native.Nat.{ℕ}
use mathlib.Core.List.{List, []}
use mathlib.Core.Path.{◌≡◌, ◌∙◌}
use lib.Ieee.{Float}
use Rattle.std.specs.Prelude.{Ok, Err}
use Rattle.answer.specs.Endings.{refused_of}
use Rattle.answer.specs.declared.Answer.{Answer}
use Rattle.job.specs.Promise.{Does}
use Rattle.reply.specs.Promise.{Writes}
use Rattle.sketch.specs.declared.Build.{Build}
use Rattle.sketch.specs.declared.Ending.{Ending}
use Rattle.text.specs.Reader.{read_of}
use Rattle.run.specs.Promise.{room, reply_build, RunsBuild, Runs}

module _ (reply reply' : List ℕ) (p q r p' q' r' : List Float) (n : ℕ) where
  pub build-run : (b : Build) (out : List Float) (a : Answer) → Does b room p q r out p' q' r' a → Writes a out b.point_count b.measure_count reply reply' n
      → RunsBuild b reply p q r reply' p' q' r' n
  unfolding reply_build
  build-run b out a d w = record {
    needed = w.needed ∙ rw (d.answer, d.output);
    written = w.written ∙ rw (d.answer, d.output);
    first = d.first;
    second = d.second;
    third = d.third;
  }

  pub read-run : (s : List ℕ) (b : Build) → Ok b ≡ read_of s → RunsBuild b reply p q r reply' p' q' r' n → Runs s reply p q r reply' p' q' r' n
  read-run s b read w = record {
    needed = rw (← read) w.needed;
    written = rw (← read) w.written;
    first = rw (← read) w.first;
    second = rw (← read) w.second;
    third = rw (← read) w.third;
  }

pub refused-run : (reply reply' : List ℕ) (p q r : List Float) (n : ℕ) (s : List ℕ) (e : Ending) (a : Answer) → Err e ≡ read_of s → a ≡ refused_of e
    → Writes a [] 0 0 reply reply' n → Runs s reply p q r reply' p q r n
refused-run reply reply' p q r n s e a read h w = record {
  needed = rw (← read) (w.needed ∙ rw h);
  written = rw (← read) (w.written ∙ rw h);
  first = rw (← read);
  second = rw (← read);
  third = rw (← read);
}
