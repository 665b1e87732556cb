-- The reply to a job's text, and what is left in the lent areas, for every input.
use Rattle.std.specs.Prelude.{ℕ, List, [], ◌≡◌, Float, length, replicate, Result, Ok, Err}
use Rattle.answer.specs.Endings.{refused_of}
use Rattle.floats.specs.Only.{only-answer}
use Rattle.floats.specs.Ops.{zero⁺}
use Rattle.job.specs.Promise.{answer_after, output_after, area_after, verdict}
use Rattle.reply.specs.Promise.{written_of}
use Rattle.reply.specs.Reply.{reply_of}
use Rattle.sketch.specs.Check.{Checked}
use Rattle.sketch.specs.declared.Build.{Build}
use Rattle.sketch.specs.declared.Ending.{Ending}
use Rattle.text.specs.Reader.{read_of}

-- the output before the job
abbrev pub room : List Float
room = replicate 100 zero⁺

module _ (p q r : List Float) where
  -- what the job on a build comes to
  abbrev pub came : Build → Checked
  came b = verdict b room p q r

  unfoldable pub reply_build : Build → List ℕ
  reply_build b = reply_of (answer_after b (came b)) (output_after b room (came b)) b.point_count b.measure_count

  -- a text that is not read has the status line alone
  abbrev pub reply_by : Result Build Ending → List ℕ
  reply_by (Ok b) = reply_build b
  reply_by (Err e) = reply_of (refused_of e) [] 0 0

  -- and leaves the areas alone
  abbrev pub area_by : List Float → Result Build Ending → List Float
  area_by a (Ok b) = area_after a (came b)
  area_by a (Err e) = a

  abbrev pub reply_to : List ℕ → List ℕ
  reply_to s = reply_by (read_of s)

  abbrev pub area_to : List Float → List ℕ → List Float
  area_to a s = area_by a (read_of s)

pub record RunsBuild (b : Build) (reply : List ℕ) (p q r : List Float) (reply' : List ℕ) (p' q' r' : List Float) (n : ℕ) : Type 0 where
  pub needed : n ≡ length (reply_build p q r b)
  pub written : reply' ≡ written_of (reply_build p q r b) reply
  pub first : p' ≡ area_after p (came p q r b)
  pub second : q' ≡ area_after q (came p q r b)
  pub third : r' ≡ area_after r (came p q r b)

pub record Runs (s reply : List ℕ) (p q r : List Float) (reply' : List ℕ) (p' q' r' : List Float) (n : ℕ) : Type 0 where
  pub needed : n ≡ length (reply_to p q r s)
  pub written : reply' ≡ written_of (reply_to p q r s) reply
  pub first : p' ≡ area_to p q r p s
  pub second : q' ≡ area_to p q r q s
  pub third : r' ≡ area_to p q r r s

-- no second answer, and no other content of a lent place, meets the promise
pub only_one : {s reply : List ℕ} {p q r : List Float} {reply₁ reply₂ : List ℕ} {p₁ q₁ r₁ p₂ q₂ r₂ : List Float} {n₁ n₂ : ℕ}
    → Runs s reply p q r reply₁ p₁ q₁ r₁ n₁ → Runs s reply p q r reply₂ p₂ q₂ r₂ n₂
    → (n₁ ≡ n₂) × (reply₁ ≡ reply₂) × (p₁ ≡ p₂) × (q₁ ≡ q₂) × (r₁ ≡ r₂)
only_one m n = (
  only-answer m.needed n.needed,
  only-answer m.written n.written,
  only-answer m.first n.first,
  only-answer m.second n.second,
  only-answer m.third n.third,
)
