-- Assumes nothing.
use Rattle.std.proofs.Common.{◌∙◌}
use Rattle.fit.proofs.RanksLaws.{lays}
use Rattle.fit.proofs.ranks.lay.Goals as goal

pub returns : goal.returns
returns c =
    lays c.args.b.now c.args.f.now c.args.nf c.args.x.now c.args.p.now c.jacobian.new.j c.jacobian.result c.requires.0 c.requires.1 c.requires.2 (rw c.numbers.ensures.numbers at c.numbers.ensures.few)
    (c.jacobian.ensures ∙ rw c.numbers.ensures.numbers)
