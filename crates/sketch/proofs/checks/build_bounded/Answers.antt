-- Assumes nothing.
use Rattle.sketch.proofs.Wholes.{bounded-whole}
use Rattle.sketch.proofs.checks.build_bounded.Goals as goal

pub returns : goal.returns
returns c =
    rw (
      c.measures_bounded.ensures,
      c.measures.ensures,
      c.equations_bounded.ensures,
      c.equations.ensures,
      c.points_bounded.ensures,
      c.points.ensures,
      c.is_sized.ensures,
      c.vec_bounded.ensures,
    )
    (bounded-whole c.args.b.now)
