-- No reply is longer than the count goes. Assumes nothing.
use mathlib.Core.Path.{◌≡◌, refl, ap, ◌∙◌}
use borrow.Author.Rules.{rules}
use native.Mathlib.Omega.{arith}
use lib.ListN.{length}
use Rattle.reply.specs.Promise.{written_of}
use Rattle.reply.specs.Reply.{reply_of}
use Rattle.reply.proofs.Short.{short}
use Rattle.reply.proofs.Written.{same_name, length-counted, room}
use Rattle.reply.proofs.lay.Goals as goal

pub returns : goal.returns
returns c =
    let a = c.args in
    let bs = reply_of a.a.now a.o.out.now a.o.points a.o.measures in
    let few = short a.a.now a.o.out.now a.o.points a.o.measures in
    let n : c.reply.new.self.at ≡ length bs = ap (λ w. w.at) c.reply.ensures ∙ length-counted bs _ refl few in
    record {
      length = n;
      room = λ h.
          let e : c.reply.new.self.reply.now ≡ written_of bs a.reply.now = ap (λ w. w.reply.now) c.reply.ensures ∙ room bs _ refl few (omega arith) in
          search (rules, ap (λ w. w.reply.ghost_name) c.reply.ensures ∙ same_name bs _);
    }
