-- What the reader gives, in the grammar's words (document 01, "The numbers a job ends in", its order for 1, 2 and 3).
use Rattle.std.specs.Prelude.{List, ◌++◌, ◌↔◌, ◌≡◌, ℕ, ◌≤◌, ◌<◌, length, Result, Ok, Err}
use Rattle.sketch.specs.declared.Build.{Build}
use Rattle.sketch.specs.declared.Ending.{Ending}
use Rattle.grammar.specs.Job.{Counts, CountsFit, counts_of, Job, Writable}
use Rattle.grammar.specs.Meaning.{build_of}
use Rattle.grammar.specs.Printed.{counts_text, job_text}

-- every count within its bound
abbrev pub Bounded : Counts → Type 0
Bounded n = (n.points ≤ 40) × (n.lines ≤ 40) × (n.equations ≤ 40) × (n.measures ≤ 20)

-- s is the text of the job j
pub record Writes (s : List ℕ) (j : Job) : Type 0 where
  pub fits : Writable j
  pub bounded : Bounded (counts_of j)
  pub text : s ≡ job_text j

-- s begins with the four count lines, and a count is over its bound
pub record Exceeds (s : List ℕ) : Type 0 where
  pub counts : Counts
  pub fits : CountsFit counts
  pub over : Bounded counts → ⊥
  pub after : List ℕ
  pub text : s ≡ counts_text counts ++ after

-- the four answers, each given exactly when its row says
pub record ReadsForm (s : List ℕ) (r : Result Build Ending) : Type 0 where
  pub one : r ≡ Err Ending.TooLong ↔ 16384 < length s
  pub two : r ≡ Err Ending.BadForm ↔ (length s ≤ 16384) × (Exceeds s → ⊥) × ((j : Job) → Writes s j → ⊥)
  pub three : r ≡ Err Ending.TooMany ↔ (length s ≤ 16384) × Exceeds s
  pub whole : (b : Build) → r ≡ Ok b ↔ (length s ≤ 16384) × ((j : Job) × Writes s j × (b ≡ build_of j))

-- each text is one job's
abbrev pub OneReading : Type 0
OneReading = (j k : Job) → Writable j → Writable k → job_text j ≡ job_text k → j ≡ k
