-- Assumes nothing.
use Rattle.std.proofs.Common.{ap, sym, length}
use Rattle.rounds.proofs.Begins.{none-short}
use Rattle.fit.proofs.RanksLaws.{frees}
use Rattle.fit.proofs.ranks.freedom.Goals as goal

pub lay-rows-requires : goal.lay-rows-requires
lay-rows-requires c =
    let room = none-short (length c.args.p.now) (length c.args.q.now) (length c.args.r.now) c.if-p-q.false in
    let nf = ap length c.numbers-nf.ensures.numbers in
    (nf, c.numbers-nf.ensures.few, room.0)

pub returns-clause-frees : goal.returns-clause-frees
returns-clause-frees c =
    frees c.args.b.now c.args.f.now c.args.x.now c.args.p.now c.args.q.now c.args.r.now (length c.numbers-nf.result.now) c.lay-rows.result c.lay-rows.new.p c.rank.new.p
    c.rank.new.q c.rank.new.r c.rank.result (ap length c.numbers-nf.ensures.numbers) c.lay-rows.ensures c.rank.ensures c.saturating_sub.result c.saturating_sub.ensures
    c.if-p-q.false (rw (sym c.row_count.ensures) c.if-row_count-gt64.false)
