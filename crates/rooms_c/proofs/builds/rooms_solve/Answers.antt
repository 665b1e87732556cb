use mathlib.Core.Path.{sym, ◌∙◌}
use Rattle.rooms_c.proofs.Joined.{read-solved, refused-solved}
use Rattle.rooms_c.proofs.builds.rooms_solve.Goals as goal

pub returns-in-Ok : goal.returns-in-Ok
returns-in-Ok c = read-solved _ _ _ _ _ _ _ _ _ _ _ _ (sym c.in-Ok.is ∙ c.read.ensures) c.solve.ensures c.from.ensures

pub returns-in-Err : goal.returns-in-Err
returns-in-Err c = refused-solved _ _ _ _ _ _ _ (sym c.in-Err.is ∙ c.read.ensures) c.from-in-Err.ensures
