-- Assumes nothing.
use Rattle.std.proofs.Common.{arith}
use Rattle.loops.proofs.Writes.{into_next}
use Rattle.measures.specs.Gauges.{gauge_of}
use Rattle.measures.proofs.Head.{head_done}
use Rattle.measures.proofs.gauges.gauge_all.Goals as goal

pub loop-i-preserved : goal.loop-i-preserved
loop-i-preserved c =
    let a = c.args in
    into_next (gauge_of a.lines.now a.points.places.now a.points.x.now a.size) _ a.measures.now a.out.now c.loop-i.out c.loop-i.i _
    (omega arith) (omega arith) c.gauge.ensures c.loop-i.invariant

pub returns : goal.returns
returns c =
    let a = c.args in
    head_done (gauge_of a.lines.now a.points.places.now a.points.x.now a.size) a.measures.now a.out.now c.loop-i.out c.loop-i.i
    (omega arith) c.loop-i.invariant
