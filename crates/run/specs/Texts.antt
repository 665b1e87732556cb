-- The number that a text ends in (document 01, "The numbers a job ends in"), over the bytes that a run leaves in the reply: each is
-- given exactly when its own row holds and no row before it does, in 01's order, and the form is that of crates/grammar. 9 comes only
-- from the library: no text ends in it where the areas have room.
use Rattle.std.specs.Prelude.{List, ◌++◌, ◌↔◌, ◌≡◌, ℕ, ◌≤◌, ◌<◌, Float, length}
use Rattle.grammar.specs.Form.{Writes, Exceeds}
use Rattle.grammar.specs.Job.{Job}
use Rattle.grammar.specs.Meaning.{build_of}
use Rattle.job.specs.Given.{SomeFails, AllFit}
use Rattle.reply.specs.Figures.{newline, whole}
use Rattle.sketch.specs.Indices.{SomeMissing}
use Rattle.sketch.specs.Numbers.{SomeOut}
use Rattle.sketch.specs.Rows.{rows_of_build}
use Rattle.sketch.specs.declared.Build.{Build}
use Rattle.spelling.specs.Letters.{ascii}
use Rattle.run.specs.Promise.{Runs}

-- the reply's first line is `status=n`
abbrev pub Says : List ℕ → ℕ → Type 0
Says reply n = (rest : List ℕ) × (reply ≡ ascii "status=" ++ whole n newline ++ rest)

-- s is not too long, it is the text of a job whose counts are within their bounds, and what P says holds of the build that it means
pub record Of (s : List ℕ) (P : Build → Type 0) : Type 0 where
  pub short : length s ≤ 16384
  pub job : Job
  pub writes : Writes s job
  pub holds : P (build_of job)

-- none of 4, 5 and 6: no number is out, no point or line number is missing, and there are at most 64 rows
pub record Passed (b : Build) : Type 0 where
  pub numbers : SomeOut b → ⊥
  pub items : SomeMissing b → ⊥
  pub rows : rows_of_build b ≤ 64

pub record Answers (s reply : List ℕ) : Type 0 where
  pub one : Says reply 1 ↔ 16384 < length s
  pub two : Says reply 2 ↔ (length s ≤ 16384) × (Exceeds s → ⊥) × ((j : Job) → Writes s j → ⊥)
  pub three : Says reply 3 ↔ (length s ≤ 16384) × Exceeds s
  pub four : Says reply 4 ↔ Of s SomeOut
  pub five : Says reply 5 ↔ Of s (λ b. (SomeOut b → ⊥) × SomeMissing b)
  pub six : Says reply 6 ↔ Of s (λ b. (SomeOut b → ⊥) × (SomeMissing b → ⊥) × (64 < rows_of_build b))
  pub seven : Says reply 7 ↔ Of s (λ b. Passed b × SomeFails b)
  pub fitted : Says reply 0 ↔ Of s (λ b. Passed b × AllFit b)
  pub never-nine : Says reply 9 → ⊥

-- with room for every reply, and areas that have room
abbrev pub TextsAnswered : Type 0
TextsAnswered = (s reply reply' : List ℕ) (p q r p' q' r' : List Float) (n : ℕ) → Runs s reply p q r reply' p' q' r' n
    → 8192 ≤ length reply → 6400 ≤ length p → 6400 ≤ length q → 6400 ≤ length r → Answers s reply'
