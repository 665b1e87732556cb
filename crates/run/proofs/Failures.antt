-- `failures-printed` (specs/Failures.antt): the reply is that of an answer that ends in 7, of which crates/job and crates/reply say the rest.
-- Assumes nothing.
use mathlib.Core.List.{List, ◌++◌}
use mathlib.Core.Path.{◌≡◌, refl, sym, ap, subst, ◌∙◌}
use Prim.Native.Nat.{ℕ, ◌≤◌}
use native.Mathlib.Omega.{arith}
use lib.Ieee.{Float}
use lib.ListN.{length, drop}
use Rattle.answer.specs.Endings.{failed_of}
use Rattle.answer.specs.declared.Answer.{Answer}
use Rattle.grammar.proofs.Theorem.{reads-form}
use Rattle.grammar.specs.Meaning.{build_of}
use Rattle.job.proofs.Numbered.{number_is}
use Rattle.job.proofs.Sentences.{failure-named}
use Rattle.job.specs.Promise.{answer_after, output_after}
use Rattle.job.specs.Sentences.{Names}
use Rattle.reply.proofs.Printed.{prints-failure}
use Rattle.reply.specs.Promise.{written_of}
use Rattle.reply.specs.Reply.{reply_of}
use Rattle.sketch.specs.declared.Build.{Build}
use Rattle.run.specs.Failures.{Failure, FailuresPrinted}
use Rattle.run.specs.Promise.{room, came, reply_build, reply_by}
use Rattle.run.specs.Texts.{Says}
use Rattle.run.proofs.Said.{says-exactly, laid}
use Rattle.run.proofs.Theorem.{texts-answered}

module _ (b : Build) (reply : List ℕ) (space : 8192 ≤ length reply) where
  -- the reply of an answer that names its group
  shown : (a : Answer) (out : List Float) (points measures : ℕ) → Names b a → Failure b (written_of (reply_of a out points measures) reply)
  shown a out points measures t = record {
    answer = a;
    named = t;
    after = drop (length (reply_of a out points measures)) reply;
    printed =
        laid a out points measures reply space
        ∙ ap (λ l. l ++ drop (length (reply_of a out points measures)) reply)
        (ap (λ u. reply_of u out points measures) t.answer ∙ prints-failure (failed_of _ t.marks) _ _ out points measures refl refl t.sized);
  }

  module _ (p q r : List Float) where
    named : Says (written_of (reply_build p q r b) reply) 7 → Failure b (written_of (reply_build p q r b) reply)
    unfolding reply_build
    named says =
        let a = answer_after b (came p q r b) in
        let out = output_after b room (came p q r b) in
        let seven = (says-exactly a out b.point_count b.measure_count reply space 7 (omega arith)).0 says in
        shown a out b.point_count b.measure_count
        (failure-named b (length room) (length p) (length q) (length r) (sym (number_is b (length room) (length p) (length q) (length r)) ∙ seven))

pub failures-printed : FailuresPrinted
failures-printed s reply reply' p q r p' q' r' n w space pr qr rr says =
    let o = (texts-answered s reply reply' p q r p' q' r' n w space pr qr rr).seven.0 says in
    let read = ((reads-form s).whole (build_of o.job)).1 (o.short, (o.job, o.writes, refl)) in
    let is : reply' ≡ written_of (reply_build p q r (build_of o.job)) reply = w.written ∙ ap (λ t. written_of (reply_by p q r t) reply) read in
    (o.job, o.writes, subst (Failure (build_of o.job)) (sym is) (named (build_of o.job) reply space p q r (subst (λ l. Says l 7) is says)))
