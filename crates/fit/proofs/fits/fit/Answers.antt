use Rattle.std.proofs.Common.{length, ap}
use Rattle.fit.proofs.Shows.{fit_is}
use Rattle.fit.proofs.fits.fit.Goals as goal

pub returns-in-Ok : goal.returns-in-Ok
returns-in-Ok c =
    fit_is c.args.b.now c.args.f.now c.args.chosen.now c.args.p.now c.args.q.now c.args.r.now c.solve-s.new.a c.solve-s.new.b c.solve-s.new.c
    c.start.new.x c.solve-s.new.x (length c.numbers.result.now) c.solve-s.result _ (rw c.numbers.ensures.numbers at c.numbers.ensures.few) (rw c.numbers-chosen.ensures.numbers at c.numbers-chosen.ensures.few) (rw c.numbers-free.ensures.numbers at c.numbers-free.ensures.few)
    (ap length c.numbers.ensures.numbers) c.start.ensures c.solve-s.ensures (rw c.in-Ok.is)

pub returns-in-Err : goal.returns-in-Err
returns-in-Err c =
    fit_is c.args.b.now c.args.f.now c.args.chosen.now c.args.p.now c.args.q.now c.args.r.now c.solve-s.new.a c.solve-s.new.b c.solve-s.new.c
    c.start.new.x c.solve-s.new.x (length c.numbers.result.now) c.solve-s.result _ (rw c.numbers.ensures.numbers at c.numbers.ensures.few) (rw c.numbers-chosen.ensures.numbers at c.numbers-chosen.ensures.few) (rw c.numbers-free.ensures.numbers at c.numbers-free.ensures.few)
    (ap length c.numbers.ensures.numbers) c.start.ensures c.solve-s.ensures (rw c.in-Err.is)
