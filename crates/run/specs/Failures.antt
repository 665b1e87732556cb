-- What support staff read after 7 (document 01, "The text"), over the bytes that a run leaves in the reply and of the job that the text is:
-- the `g` line has the lowest point, the iterations and the tries of the lowest group that does not converge, and why it does not, by document
-- 02's code and column; and there is a `c` line for each marked equation, which are the group's own without which it converges (`Names`,
-- crates/job/specs/Sentences.antt). The numbers of the marked ones rise, and are no others (`SuspectsAre`, crates/reply/specs/Theorems.antt).
-- `failures-printed` (proofs/Failures.antt).
use mathlib.Core.List.{List, ◌++◌, flat_map}
use Rattle.std.specs.Prelude.{◌≡◌, ℕ, ◌≤◌, Float, length}
use Rattle.answer.specs.declared.Answer.{Answer}
use Rattle.grammar.specs.Form.{Writes}
use Rattle.grammar.specs.Job.{Job}
use Rattle.grammar.specs.Meaning.{build_of}
use Rattle.job.specs.Sentences.{Names}
use Rattle.reply.specs.Figures.{comma, newline, whole}
use Rattle.reply.specs.Theorems.{c_line, suspects_in}
use Rattle.rounds.specs.Reasons.{code_of, named_column}
use Rattle.sketch.specs.declared.Build.{Build}
use Rattle.spelling.specs.Letters.{ascii}
use Rattle.run.specs.Promise.{Runs}
use Rattle.run.specs.Texts.{Says}

pub record Failure (b : Build) (reply : List ℕ) : Type 0 where
  pub answer : Answer
  pub named : Names b answer
  -- what stands in the slice past the reply
  pub after : List ℕ
  pub printed : reply
      ≡ (ascii "status=7\n"
      ++ ascii "g=" ++ whole named.lowest comma ++ whole named.iterations comma ++ whole named.tries comma
      ++ whole (code_of named.why) comma ++ whole (named_column named.why) newline
      ++ flat_map c_line (suspects_in named.marks))
      ++ after

-- with room for every reply, and areas that have room
abbrev pub FailuresPrinted : Type 0
FailuresPrinted = (s reply reply' : List ℕ) (p q r p' q' r' : List Float) (n : ℕ) → Runs s reply p q r reply' p' q' r' n
    → 8192 ≤ length reply → 6400 ≤ length p → 6400 ≤ length q → 6400 ≤ length r
    → Says reply' 7 → (j : Job) × Writes s j × Failure (build_of j) reply'
