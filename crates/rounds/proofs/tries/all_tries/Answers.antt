use native.Mathlib.Omega.{arith}
use Rattle.rounds.specs.Inside.{problem_in}
use Rattle.rounds.specs.Problem.{state_of}
use Rattle.rounds.proofs.Turn.{tries_start, one_more, tries_next, tries_stop}
use Rattle.rounds.proofs.tries.all_tries.Goals as goal

pub loop-init : goal.loop-init
loop-init c = (
  rw c.begun-f.ensures c.requires.4,
  rw c.begun-f.ensures
      (tries_start (problem_in c.args.p.now) c.args.j.now c.args.h.now c.product.new.h _ c.requires.0.counted c.requires.0.few c.args.p.now.narrow c.requires.0.jacobian-long c.requires.1.half-long
      c.product.result c.product.ensures c.product.auto.h c.diag_max.result _ _ c.diag_max.ensures c.unwrap_or.ensures),
)

pub loop-preserved : goal.loop-preserved
loop-preserved c =
    let n = one_more (problem_in c.args.p.now) _ _ _ (state_of c.loop.x c.loop.r c.loop.f) _ c.in-Err.ensures in (
      omega arith,
      tries_next (problem_in c.args.p.now) _ _ _ c.loop.counter (state_of c.loop.x c.loop.r c.loop.f) _ _ c.loop-test.true c.loop.invariant.1 c.in-Err.ensures,
    )

pub returns-in-Ok : goal.returns-in-Ok
returns-in-Ok c =
    tries_stop (problem_in c.args.p.now) _ _ _ c.loop.counter (state_of c.loop.x c.loop.r c.loop.f) _ _ c.loop-test.true c.loop.invariant.1 c.in-Ok.ensures
