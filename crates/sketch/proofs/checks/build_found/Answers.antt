-- Assumes nothing.
use Rattle.sketch.proofs.Wholes.{found-whole}
use Rattle.sketch.proofs.checks.build_found.Goals as goal

pub returns : goal.returns
returns c =
    rw (
      c.measures_found.ensures,
      c.measures.ensures,
      c.equations_found.ensures,
      c.equations.ensures,
      c.lines_found.ensures,
      c.lines.ensures,
    )
    (found-whole c.args.b.now)
