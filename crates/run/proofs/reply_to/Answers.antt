use Rattle.run.proofs.Joined.{build-run}
use Rattle.run.proofs.reply_to.Goals as goal

pub returns : goal.returns
returns c =
    build-run c.args.reply.now c.write.new.reply c.args.p.now c.args.q.now c.args.r.now c.solve-a.new.p c.solve-a.new.q c.solve-a.new.r
    c.write.result c.args.b.now c.solve-a.new.out c.solve-a.result c.solve-a.ensures c.write.ensures
