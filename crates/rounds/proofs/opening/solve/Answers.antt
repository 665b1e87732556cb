use borrow.Author.Tests.{lt-ltb, le-ltb}
use lib.ListN.{length}
use Rattle.rounds.proofs.Begins.{refused_short, done_converged, done_failed}
use Rattle.rounds.proofs.opening.solve.Goals as goal
use Rattle.rounds.proofs.opening.solve.Goals.{then-a-lt6400-via-then-a-lt6400, then-a-lt6400-via-else-a-lt6400+then-b-lt6400, then-a-lt6400-via-else-a-lt6400+else-b-lt6400+then-c-lt6400}

pub returns-then-a-lt6400 : goal.returns-then-a-lt6400
returns-then-a-lt6400 c =
    let p = c.args.p.now in
    rw (← c.numbers.ensures.numbers, ← c.numbers-2.ensures.numbers)
    (refused_short p.equations.now p.lines.now p.places.now p.columns.now c.numbers.result.now c.numbers-2.result.now c.args.x.now c.args.a.now c.args.b.now c.args.c.now
    c.numbers.ensures.few c.numbers-2.ensures.few c.if-x-gt80.false c.refused-then-a-lt6400.result
    (elim c.then-a-lt6400.branch [
      | then-a-lt6400-via-then-a-lt6400 w ↦ rw (lt-ltb (length c.args.a.now) 6400 w.if-a-lt6400.true)
      | then-a-lt6400-via-else-a-lt6400+then-b-lt6400 w ↦ rw (le-ltb (length c.args.a.now) 6400 w.if-a-lt6400.false, lt-ltb (length c.args.b.now) 6400 w.if-b-lt6400.true)
      | then-a-lt6400-via-else-a-lt6400+else-b-lt6400+then-c-lt6400 w ↦
          rw (le-ltb (length c.args.a.now) 6400 w.if-a-lt6400.false, le-ltb (length c.args.b.now) 6400 w.if-b-lt6400.false, lt-ltb (length c.args.c.now) 6400 w.if-c-lt6400.true)
    ])
    c.refused-then-a-lt6400.ensures)

pub returns-in-Ok : goal.returns-in-Ok
returns-in-Ok c =
    let p = c.args.p.now in
    rw (← c.numbers.ensures.numbers, ← c.numbers-2.ensures.numbers)
    (done_converged p.equations.now p.lines.now p.places.now p.columns.now c.numbers.result.now c.numbers-2.result.now c.args.x.now c.args.a.now c.args.b.now c.args.c.now
    c.numbers.ensures.few c.numbers-2.ensures.few c.if-x-gt80.false c.if-a-lt6400.false c.if-b-lt6400.false c.if-c-lt6400.false c.copy_from_slice.new.self c.in_areas.new.x _ _ _ c.copy_from_slice.ensures.after c.in-Ok.fit c.ended.result
    c.in-Ok.ensures c.ended.ensures _ c.copy_from_slice-in-Ok.ensures.after)

pub returns-in-Err : goal.returns-in-Err
returns-in-Err c =
    let p = c.args.p.now in
    rw (← c.numbers.ensures.numbers, ← c.numbers-2.ensures.numbers)
    (done_failed p.equations.now p.lines.now p.places.now p.columns.now c.numbers.result.now c.numbers-2.result.now c.args.x.now c.args.a.now c.args.b.now c.args.c.now
    c.numbers.ensures.few c.numbers-2.ensures.few c.if-x-gt80.false c.if-a-lt6400.false c.if-b-lt6400.false c.if-c-lt6400.false c.copy_from_slice.new.self c.in_areas.new.x _ _ _ c.copy_from_slice.ensures.after c.in-Err.fit c.ended-in-Err.result
    c.in-Err.ensures c.ended-in-Err.ensures)
