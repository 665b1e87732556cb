-- What the calls promise, from the last to the first. Assumes nothing.
use borrow.Author.Rules.{rules}
use Rattle.groups.proofs.Alone.{alone-made}
use Rattle.level.specs.Level.{level_axis}
use Rattle.level.proofs.sweeps.Axis.level.Goals as goal

pub returns : goal.returns
unfolding level_axis
returns c =
    rw (c.level_points.ensures, c.join_equations.ensures, c.equations.ensures, alone-made _ (λ f i y q h. search rules) _ _ c.from_fn-parents.ensures.items)
