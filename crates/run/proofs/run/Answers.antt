use mathlib.Core.Path.{sym, ◌∙◌}
use Rattle.run.proofs.Joined.{read-run, refused-run}
use Rattle.run.proofs.run.Goals as goal

pub returns-in-Ok : goal.returns-in-Ok
returns-in-Ok c = read-run _ _ _ _ _ _ _ _ _ _ _ (sym c.in-Ok.is ∙ c.read.ensures) c.reply_to.ensures

pub returns-in-Err : goal.returns-in-Err
returns-in-Err c = refused-run _ _ _ _ _ _ _ _ _ (sym c.in-Err.is ∙ c.read.ensures) c.refused.ensures c.write.ensures
