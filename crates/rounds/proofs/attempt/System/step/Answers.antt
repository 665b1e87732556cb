use mathlib.Core.Path.{refl}
use lib.ListN.{length}
use Rattle.rounds.proofs.Trials.{eliminated-is}
use Rattle.rounds.proofs.attempt.System.step.Goals as goal

pub returns : goal.returns
returns c =
    eliminated-is (length c.args.r.now) c.args.mu c.args.self.now.largest c.args.self.now.half.now c.args.r.now c.args.w.now c.damped.new.w c.solve_dense.new.a c.solve_dense.new.b c.damped.result c.solve_dense.result
    c.requires.0 c.requires.1 refl c.requires.2 c.damped.ensures c.damped.auto.w (rw c.copy_from_slice.ensures.after at c.solve_dense.ensures)
