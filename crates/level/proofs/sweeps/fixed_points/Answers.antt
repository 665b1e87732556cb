-- Assumes nothing.
use mathlib.Core.Bool.{false}
use borrow.Author.Rules.{rules}
use Rattle.sketch.specs.Blank.{blank_point}
use Rattle.level.specs.Fixed.{fixed_of, fixed_point}
use Rattle.level.proofs.Mapped.{mapped}
use Rattle.level.proofs.sweeps.fixed_points.Goals as goal

pub returns : goal.returns
unfolding fixed_of
returns c = mapped _ fixed_point (λ p q x y h. search rules) _ _ _ _ blank_point false c.told-points c.map.ensures.items
