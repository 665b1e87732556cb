use mathlib.Core.Path.{refl}
use borrow.Author.Rules.{rules}
use Rattle.loops.proofs.Turning.{up_to-next, up_to-done}
use lib.Ieee.{neg, of_bits}
use Rattle.nullspace.specs.Layout.{add_product_at, dot_at}
use Rattle.nullspace.proofs.reflect.dot_row.Goals as goal

pub loop-i-init : goal.loop-i-init
unfolding dot_at neg of_bits
loop-i-init c = (search rules, refl)

pub loop-i-preserved : goal.loop-i-preserved
unfolding add_product_at
loop-i-preserved c = (search rules, search (up_to-next, rules))

pub returns : goal.returns
returns c = search (up_to-done, rules)
