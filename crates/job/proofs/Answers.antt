-- From what the calls at a job's end promise to its own promise. Assumes nothing.
use Prim.Native.Nat.{ℕ, min}
use mathlib.Core.List.{List}
use mathlib.Core.Path.{◌≡◌, ap, ◌∙◌}
use lib.Ieee.{Float}
use lib.ListN.{length}
use Rattle.std.specs.Prelude.{Ok, Err}
use Rattle.answer.specs.Endings.{refused_of}
use Rattle.answer.specs.declared.Answer.{Answer}
use Rattle.groups.specs.Listed.{grouping_of}
use Rattle.groups.specs.declared.Grouping.{Grouping}
use Rattle.rounds.specs.Promise.{zeroed}
use Rattle.sketch.specs.Check.{number_of}
use Rattle.sketch.specs.declared.Build.{Build}
use Rattle.sketch.specs.declared.Ending.{Ending}
use Rattle.job.specs.declared.Doing.{Doing}
use Rattle.job.specs.declared.Failing.{Failing}
use Rattle.std.specs.Prelude as std
use Rattle.job.specs.Groups.{fits, fails, result_of, groups_from, begin, answer_by, output_by, fit_of}
use Rattle.job.specs.Promise.{verdict, answer_after, number_in, Does}
use Rattle.job.proofs.Numbered.{number_is}

-- how the groups went
module _ (b : Build) (gr : Grouping) (n : ℕ) (w : std.Result Doing Failing) (e : gr ≡ grouping_of b) (m : n ≡ min gr.count 40)
    (h : result_of w ≡ groups_from b gr n 0 (begin b)) where
  came : result_of w ≡ fit_of b
  unfolding fit_of
  came = h ∙ rw (m, e)

  pub ended-failing : (a : Answer) (out : List Float) (x : Failing) → w ≡ Err x → a ≡ answer_by b gr (fails x.group x.failure)
      → (a ≡ answer_by b (grouping_of b) (fit_of b)) × (out ≡ output_by b (grouping_of b) (fit_of b) out)
  ended-failing a out x f q =
      let g : fails x.group x.failure ≡ fit_of b = rw f at came in
      (rw (← g, ← e) q, rw (← g))

  pub ended-fitted : (a : Answer) (out out' : List Float) (d : Doing) → w ≡ Ok d → a ≡ answer_by b gr (fits d) → out' ≡ output_by b gr (fits d) out
      → (a ≡ answer_by b (grouping_of b) (fit_of b)) × (out' ≡ output_by b (grouping_of b) (fit_of b) out)
  ended-fitted a out out' d f q o =
      let g : fits d ≡ fit_of b = rw f at came in
      (rw (← g, ← e) q, rw (← g) o)

module _ (b : Build) (out p q r : List Float) where
  numbered : (a : Answer) → a ≡ answer_after b (verdict b out p q r) → number_of a.ending ≡ number_in b (length out) (length p) (length q) (length r)
  numbered a e = ap (λ (t : Answer). number_of t.ending) e ∙ number_is b (length out) (length p) (length q) (length r)

  pub does-refuse : (e : Ending) (a : Answer) → verdict b out p q r ≡ Err e → a ≡ refused_of e → Does b out p q r out p q r a
  does-refuse e a v h = record { answer = rw v h; number = numbered a (rw v h); output = rw v; first = rw v; second = rw v; third = rw v }

  pub does-fit : (out' p' q' r' : List Float) (a : Answer) → verdict b out p q r ≡ Ok tt → a ≡ answer_by b (grouping_of b) (fit_of b)
      → out' ≡ output_by b (grouping_of b) (fit_of b) out → p' ≡ zeroed 6400 p → q' ≡ zeroed 6400 q → r' ≡ zeroed 6400 r → Does b out p q r out' p' q' r' a
  does-fit out' p' q' r' a v h o ep eq er = record { answer = rw v h; number = numbered a (rw v h); output = rw v o; first = rw v ep; second = rw v eq; third = rw v er }
