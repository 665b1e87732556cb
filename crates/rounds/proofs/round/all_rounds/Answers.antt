use native.Mathlib.Omega.{arith}
use Rattle.rounds.specs.Inside.{problem_in, jacobian_in}
use Rattle.rounds.proofs.Around.{round_owned, round_counted, rounds_next, rounds_stop, rounds_done}
use Rattle.rounds.proofs.round.all_rounds.Goals as goal

pub returns-in-Break : goal.returns-in-Break
returns-in-Break c =
    rounds_stop (problem_in c.args.p.now) (jacobian_in c.args.p.now) c.loop.x c.loop.r _ c.all_tries-tried.new.r c.jacobian.new.j c.loop.f c.all_tries-tried.result
    c.loop.invariant.2 c.jacobian.ensures c.all_tries-tried.ensures c.loop.counter _ c.loop-test.true _ c.within.ensures c.loop.invariant.3 c.in-Break.ended c.in-Break.ensures

pub loop-preserved : goal.loop-preserved
loop-preserved c =
    let counts = round_counted (problem_in c.args.p.now) (jacobian_in c.args.p.now) c.loop.x c.loop.r c.all_tries-tried.new.x c.all_tries-tried.new.r c.jacobian.new.j c.loop.f c.all_tries-tried.result
    c.loop.invariant.2 c.jacobian.ensures c.all_tries-tried.ensures c.within.result c.in-Continue.next c.in-Continue.ensures in (
      omega (arith, counts.0),
      omega (arith, counts.1),
      round_owned (problem_in c.args.p.now) (jacobian_in c.args.p.now) c.loop.x c.loop.r _ _ c.jacobian.new.j c.loop.f c.all_tries-tried.result
          c.loop.invariant.2 c.jacobian.ensures c.all_tries-tried.ensures,
      rounds_next (problem_in c.args.p.now) (jacobian_in c.args.p.now) c.loop.x c.loop.r _ c.all_tries-tried.new.r c.jacobian.new.j c.loop.f c.all_tries-tried.result
          c.loop.invariant.2 c.jacobian.ensures c.all_tries-tried.ensures c.loop.counter _ c.loop-test.true _ c.within.ensures c.loop.invariant.3 c.in-Continue.next c.in-Continue.ensures,
    )

pub returns-then-within : goal.returns-then-within
returns-then-within c =
    rw (← rounds_done (problem_in c.args.p.now) (jacobian_in c.args.p.now) c.loop.counter c.loop.x c.loop.r c.loop.f _ c.loop-test.false c.loop.invariant.3, ← c.within-2.ensures, c.if-within.true)

pub returns-else-within : goal.returns-else-within
returns-else-within c =
    rw (← rounds_done (problem_in c.args.p.now) (jacobian_in c.args.p.now) c.loop.counter c.loop.x c.loop.r c.loop.f _ c.loop-test.false c.loop.invariant.3, ← c.within-2.ensures, c.if-within.false)
