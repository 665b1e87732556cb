-- The page to read first: document 01's three demands and its table "Both sides of the line" as one statement, in 01's order. `demands`
-- (proofs/Demands.antt) proves it, each line by the theorem of the room that it is about. What a line says is in the file that its
-- name is imported from.
use Rattle.std.specs.Prelude.{ℕ, Bool, List, ◌≡◌, T, Float, Ok}
use Rattle.std.specs.Float.{binary64}
use Rattle.std.specs.Float.Ieee.{fits}
use Rattle.std.specs.Float.Ieee.Positive.{positive}
use Rattle.fit.specs.Groups.{LowestIs}
use Rattle.fit.specs.Own.{SharesGroup, FitsAlike}
use Rattle.fit.specs.Table.{BothSides}
use Rattle.grammar.specs.Form.{ReadsForm, OneReading}
use Rattle.groups.specs.Chains.{GroupsAreChains}
use Rattle.groups.specs.Listed.{grouping_of}
use Rattle.groups.specs.Touches.{touched_by}
use Rattle.job.specs.Given.{GivenExactly, HandsOutNothing}
use Rattle.job.specs.Sentences.{FittedMeansFitted, MeasuresAsHandedOut, WorstAsHandedOut, FailureNamed, AreasAfter}
use Rattle.plate.specs.Scale.{BroughtBack}
use Rattle.reply.specs.Theorems.{SuspectsAre}
use Rattle.root.specs.Root.{sqrt_of}
use Rattle.root.specs.Rounded.{Rounded}
use Rattle.sketch.specs.Check.{check_of}
use Rattle.sketch.specs.Looked.{LooksEverywhere}
use Rattle.sketch.specs.declared.Build.{Build}
use Rattle.text.specs.Reader.{read_of}
use Rattle.run.specs.Failures.{FailuresPrinted}
use Rattle.run.specs.Texts.{TextsAnswered}

pub record Demands : Type 0 where
  -- ---- 1. every text and every build ends in one number of the table

  -- a text, over the bytes of its reply: each number exactly when its row holds and no row before it does, and 9 never
  pub texts : TextsAnswered
  -- a build, with an output and areas of whatever length
  pub builds : (b : Build) (out p q r : ℕ) → GivenExactly b out p q r
  -- 4 and 5 look at every field of the build
  pub fields : (b : Build) → LooksEverywhere b
  -- a refusal and a failed fit leave the output as it was; a refusal leaves the areas as they were, and what is fitted or fails leaves
  -- them +0.0
  pub output : (b : Build) → HandsOutNothing b
  pub areas : (b : Build) → AreasAfter b
  -- 7 names the lowest group that fails, with its own counts and its own reason, which holds, and marks exactly the equations of it without
  -- which it converges; the reply to a text prints them so, and the marked ones rising
  pub failing : (b : Build) (out p q r : ℕ) → FailureNamed b out p q r
  pub printed : FailuresPrinted
  pub suspects : (marks : List Bool) → SuspectsAre marks
  -- 0 means fitted: each residual of each equation is finite and at most 1e-12
  pub fitted : (b : Build) (out p q r : ℕ) → FittedMeansFitted b out p q r
  -- and a measure is taken from the points that are handed out
  pub measured : (b : Build) → MeasuresAsHandedOut b
  -- and worst tells what all equations come to at these points, each brought back by (coordinate − centre) / size
  pub worst : (b : Build) → WorstAsHandedOut b
  pub brought-back : (b : Build) (points : List Float) → BroughtBack b points
  -- ---- 2. the square root is correctly rounded; the rest equals definitions that follow the Rust, which each room's promises are

  pub root : (x : Float) → T (positive x) → T (fits binary64 x) → Rounded x (sqrt_of x)
  pub root-once : (x r s : Float) → Rounded x r → Rounded x s → r ≡ s
  -- ---- 3. groups are exactly the chains, and a group depends on its own part of the build alone

  pub groups : (b : Build) → check_of b ≡ Ok tt → GroupsAreChains (touched_by b) (grouping_of b)
  pub lowest : (b : Build) (g : ℕ) → check_of b ≡ Ok tt → LowestIs b (grouping_of b) g
  pub own-part : {b b' : Build} {g g' : ℕ} → SharesGroup b b' g g' → FitsAlike b b' g g'
  -- ---- the form of a text: what is read is what the form says, and a text is one job's

  pub form : (s : List ℕ) → ReadsForm s (read_of s)
  pub one-reading : OneReading
  -- ---- both sides of the line: cases (a) to (l)

  pub both-sides : BothSides
