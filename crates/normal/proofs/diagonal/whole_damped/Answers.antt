-- Assumes nothing.
use mathlib.Core.Path.{ap, ◌∙◌}
use Rattle.normal.specs.Normal.{damped_of}
use Rattle.normal.proofs.Mirrors.{any-start}
use Rattle.normal.proofs.diagonal.whole_damped.Goals as goal

pub returns : goal.returns
returns c =
    c.add_on_diagonal.ensures
    ∙ ap (damped_of c.args.h.now.rows c.args.mu c.args.m) (c.spread.ensures ∙ any-start c.args.h.now.rows c.args.h.now.numbers.now c.args.w.now c.requires)
