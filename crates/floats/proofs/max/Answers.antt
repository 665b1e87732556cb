-- Assumes nothing.
use borrow.Author.Rules.{rules}
use mathlib.Core.Bool.{true, false}
use mathlib.Core.Path.{◌≡◌}
use lib.Ieee.{is_nan}
use Rattle.floats.specs.Magnitude.{max_of}
use Rattle.floats.proofs.max.Goals as goal

pub returns-then-a-b : goal.returns-then-a-b
unfolding max_of
returns-then-a-b c = rw c.if-a-b.true

pub returns-then-is_nan : goal.returns-then-is_nan
unfolding max_of
returns-then-is_nan c = let h : is_nan c.args.a ≡ true = search rules in rw (c.if-a-b.false, h)

pub returns-else-is_nan : goal.returns-else-is_nan
unfolding max_of
returns-else-is_nan c = let h : is_nan c.args.a ≡ false = search rules in rw (c.if-a-b.false, h)
