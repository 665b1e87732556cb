use Rattle.loops.proofs.Writes.{own_next, into-whole}
use mathlib.Core.Path.{refl}
use lib.Ieee.{nan}
use borrow.Author.Rules.{rules}
use Rattle.floats.specs.Ops.{◌⊘◌}
use Rattle.nullspace.proofs.units.divide.Goals as goal

pub loop-x-preserved : goal.loop-x-preserved
loop-x-preserved c = own_next (λ v. v ⊘ c.args.len) nan c.args.row.now c.loop-x.row c.loop-x.x-index c.loop-x-test.true c.loop-x.invariant

pub returns : goal.returns
returns c = let row = c.args.row.now in into-whole (λ v. v ⊘ c.args.len) row row c.loop-x.row c.loop-x.x-index refl (search rules) (search rules) c.loop-x.invariant
