use Rattle.fit.proofs.Sets.{set-out-is}
use Rattle.fit.proofs.frames.set_out.Goals as goal

pub returns : goal.returns
returns c =
    set-out-is c.args.points.now c.args.gr.now c.args.g c.points_of-listed.result c.equations_of.result c.free-free.result c.places.result c.columns.result
    c.points_of-listed.ensures c.equations_of.ensures c.free-free.ensures c.places.ensures c.columns.ensures
