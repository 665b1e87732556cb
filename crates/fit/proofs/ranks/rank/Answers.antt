-- Assumes nothing.
use Rattle.fit.proofs.RanksLaws.{ranks}
use Rattle.fit.proofs.ranks.rank.Goals as goal

pub returns : goal.returns
returns c =
    ranks c.args.rows c.args.nf c.args.p.now c.args.q.now c.args.r.now c.requires.0 c.requires.1 c.requires.2 c.requires.3 c.requires.4
    c.null_space.result c.unwrap_or-rank.result c.null_space.new.work c.null_space.new.out c.clear.new.s c.clear-2.new.s c.unwrap_or-rank.ensures
    c.null_space.ensures c.null_space.auto.out c.clear.ensures c.clear-2.ensures
