use mathlib.Core.Path.{ap, ◌∙◌}
use Rattle.rooms_c.specs.Code.{rank_code}
use Rattle.rooms_c.proofs.matrices.rooms_null_space.Goals as goal

pub returns : goal.returns
returns c = let e = c.null_space.ensures in record { answer = c.rank_code.ensures ∙ ap rank_code e.answer; work = e.work; output = e.output }
