-- The constant is the default past the end. Assumes nothing.
use lib.Ieee.{div, of_bits}
use borrow.Author.Tests.{lt-ltb, le-ltb}
use Rattle.std.proofs.Common.{refl}
use Rattle.loops.proofs.Picks.{pick_yes, pick_no}
use Rattle.slopes.specs.Dense.{add_at}
use Rattle.slopes.proofs.dense.Dense.add_at.Goals as goal

pub returns-then-k-self : goal.returns-then-k-self
unfolding add_at div of_bits
returns-then-k-self c =
    pick_yes _ _ _ _ (lt-ltb _ _ c.if-k-self.true) (rw (c.put.ensures, c.get_or.ensures))

pub returns-else-k-self : goal.returns-else-k-self
unfolding add_at
returns-else-k-self c = pick_no _ _ _ _ (le-ltb _ _ c.if-k-self.false) refl
