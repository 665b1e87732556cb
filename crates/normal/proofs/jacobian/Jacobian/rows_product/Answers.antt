-- Assumes nothing.
use mathlib.Core.Path.{refl}
use borrow.Author.Rules.{rules}
use lib.Ieee.{neg, of_bits}
use Rattle.loops.proofs.Turning.{up_to-next, up_to-done}
use Rattle.normal.specs.Normal.{add_product, rows_product}
use Rattle.normal.proofs.jacobian.Jacobian.rows_product.Goals as goal

pub loop-c-init : goal.loop-c-init
unfolding rows_product neg of_bits
loop-c-init c = (search rules, refl, refl, refl)

pub loop-c-preserved : goal.loop-c-preserved
unfolding add_product
loop-c-preserved c = (search rules, search rules, search rules, search (up_to-next, rules))

pub returns : goal.returns
returns c = search (up_to-done, rules)
