-- Each number of document 01 is the number of a text exactly when its row says. Assumes nothing.
use mathlib.Core.Bool.{Bool, true, false, ◌||◌}
use mathlib.Core.List.{List, []}
use mathlib.Core.Logic.Iff
use mathlib.Core.Logic.{◌↔◌, ◌≢◌}
use mathlib.Core.Path.{◌≡◌, refl, sym, ap, subst, ◌∙◌}
use Prim.Native.Nat.{ℕ, ◌+◌, ◌*◌, ◌≤◌, ◌<◌}
use native.Mathlib.Omega.{arith}
use borrow.Author.Tests.{le-ltb}
use lib.Dec.{eqb, ltb}
use lib.Ieee.{Float}
use Rattle.std.specs.Prelude.{Result, Ok, Err}
use lib.ListN.{length}
use Rattle.answer.specs.Endings.{refused_of}
use Rattle.grammar.proofs.Theorem.{cases, reads-form}
use Rattle.grammar.specs.Form.{Writes}
use Rattle.grammar.specs.Job.{Job}
use Rattle.grammar.specs.Meaning.{build_of}
use Rattle.job.specs.Promise.{no_room, answer_after, output_after}
use Rattle.reply.specs.Promise.{written_of}
use Rattle.sketch.specs.Check.{number_of, over_bound}
use Rattle.sketch.specs.declared.Build.{Build}
use Rattle.sketch.specs.declared.Ending.{Ending}
use Rattle.sketch.specs.declared.Ending.TheVariants.{TooLong, BadForm, TooMany}
use Rattle.spelling.proofs.Steps.{never}
use Rattle.text.specs.Reader.{read_of}
use Rattle.run.specs.Promise.{room, came, reply_build, reply_by, reply_to}
use Rattle.run.specs.Texts.{Says, Of, Answers, TextsAnswered}
use Rattle.run.proofs.Built.{by-number, built_number, four-of, five-of, six-of, seven-of, fitted-of, nine-of, three-of, not-of-text}
use Rattle.run.proofs.Said.{says-exactly}

-- whether a number comes from a build: not 1, 2 or 3
abbrev of_build : ℕ → Bool
of_build k = eqb k 0 || ltb 3 k

module _ (p q r : List Float) where
  -- the number of a text that was read so
  abbrev number_by : Result Build Ending → ℕ
  number_by (Ok b) = built_number p q r b
  number_by (Err e) = number_of e

  says-by : (reply : List ℕ) → 8192 ≤ length reply → (t : Result Build Ending) (k : ℕ) → k < 10 → Says (written_of (reply_by p q r t) reply) k ↔ number_by t ≡ k
  unfolding reply_build
  says-by reply h (Ok b) k i = says-exactly (answer_after b (came p q r b)) (output_after b room (came p q r b)) b.point_count b.measure_count reply h k i
  says-by reply h (Err e) k i = says-exactly (refused_of e) [] 0 0 reply h k i

  module _ (s : List ℕ) (pr : 6400 ≤ length p) (qr : 6400 ≤ length q) (rr : 6400 ≤ length r) where
    -- the counts of a text that is read are within their bounds
    counts-few : (j : Job) → Writes s j → over_bound (build_of j) ≡ false
    counts-few j w =
        let b = w.bounded in
        rw (le-ltb 40 (length j.points) b.0, le-ltb 40 (length j.lines) b.1, le-ltb 40 (length j.equations) b.2, le-ltb 20 (length j.measures) b.3)

    -- so that there is room for its output
    has_room : (j : Job) → Writes s j → no_room (build_of j) (length room) (length p) (length q) (length r) ≡ false
    has_room j w =
        let b = w.bounded in
        let out : 2 * length j.points + length j.measures ≤ length room = omega (arith, b.0, b.3) in
        rw (le-ltb (length room) (2 * length j.points + length j.measures) out, le-ltb (length p) 6400 pr, le-ltb (length q) 6400 qr, le-ltb (length r) 6400 rr)

    -- 1, 2 and 3, which no build of a text has
    refused-exactly : (e : Ending) → ((j : Job) → Writes s j → built_number p q r (build_of j) ≢ number_of e)
        → number_by (read_of s) ≡ number_of e ↔ read_of s ≡ Err e
    refused-exactly e other = (
      λ h.
          cases s (λ t. read_of s ≡ t → number_by t ≡ number_of e → t ≡ Err e)
          (λ i k. ap Err (by-number TooLong e k))
          (λ i k. ap Err (by-number BadForm e k))
          (λ i k. ap Err (by-number TooMany e k))
          (λ b i k. let w = ((reads-form s).whole b).0 i in absurd (other w.1.0 w.1.1 (sym (ap (built_number p q r) w.1.2) ∙ k)))
          refl h,
      λ i. ap (λ t. number_by t) i,
    )

    -- the others, which are a build's
    built-exactly : (k : ℕ) (Q : Build → Type 0) → of_build k ≡ true → ((j : Job) → Writes s j → built_number p q r (build_of j) ≡ k ↔ Q (build_of j))
        → number_by (read_of s) ≡ k ↔ Of s Q
    built-exactly k Q t f = (
      λ h.
          cases s (λ t. read_of s ≡ t → number_by t ≡ k → Of s Q)
          (λ i m. absurd (never (of_build 1) refl (ap of_build m ∙ t)))
          (λ i m. absurd (never (of_build 2) refl (ap of_build m ∙ t)))
          (λ i m. absurd (never (of_build 3) refl (ap of_build m ∙ t)))
          (λ b i m.
          let w = ((reads-form s).whole b).0 i in
          record { short = w.0; job = w.1.0; writes = w.1.1; holds = (f w.1.0 w.1.1).0 (sym (ap (built_number p q r) w.1.2) ∙ m) })
          refl h,
      λ o.
          ap (λ t. number_by t) (((reads-form s).whole (build_of o.job)).1 (o.short, (o.job, o.writes, refl)))
          ∙ (f o.job o.writes).1 o.holds,
    )

    module _ (reply : List ℕ) (space : 8192 ≤ length reply) where
      says : (k : ℕ) → k < 10 → Says (written_of (reply_to p q r s) reply) k ↔ number_by (read_of s) ≡ k
      says k i = says-by reply space (read_of s) k i

      answers : Answers s (written_of (reply_to p q r s) reply)
      answers =
          let few = counts-few in
          let has = has_room in
          record {
            one = Iff.trans (says 1 (omega arith)) (Iff.trans (refused-exactly TooLong (λ j w. (not-of-text p q r (build_of j) (few j w) (has j w)).0)) (reads-form s).one);
            two = Iff.trans (says 2 (omega arith)) (Iff.trans (refused-exactly BadForm (λ j w. (not-of-text p q r (build_of j) (few j w) (has j w)).1)) (reads-form s).two);
            three = Iff.trans (says 3 (omega arith)) (Iff.trans (refused-exactly TooMany (λ j w. three-of p q r (build_of j) (few j w) (has j w))) (reads-form s).three);
            four = Iff.trans (says 4 (omega arith)) (built-exactly 4 _ refl (λ j w. four-of p q r (build_of j) (few j w) (has j w)));
            five = Iff.trans (says 5 (omega arith)) (built-exactly 5 _ refl (λ j w. five-of p q r (build_of j) (few j w) (has j w)));
            six = Iff.trans (says 6 (omega arith)) (built-exactly 6 _ refl (λ j w. six-of p q r (build_of j) (few j w) (has j w)));
            seven = Iff.trans (says 7 (omega arith)) (built-exactly 7 _ refl (λ j w. seven-of p q r (build_of j) (few j w) (has j w)));
            fitted = Iff.trans (says 0 (omega arith)) (built-exactly 0 _ refl (λ j w. fitted-of p q r (build_of j) (few j w) (has j w)));
            never-nine = λ h. ((built-exactly 9 (λ b. ⊥) refl (λ j w. (λ n. nine-of p q r (build_of j) (few j w) (has j w) n, λ n. absurd n))).0 ((says 9 (omega arith)).0 h)).holds;
          }

pub texts-answered : TextsAnswered
texts-answered s reply reply' p q r p' q' r' n w space pr qr rr = subst (Answers s) (sym w.written) (answers p q r s pr qr rr reply space)
