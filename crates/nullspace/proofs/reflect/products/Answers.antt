use mathlib.Core.Path.{refl}
use borrow.Author.Rules.{rules}
use Rattle.loops.proofs.Turning.{up_to-next, up_to-done, fold_next, fold_done}
use lib.Ieee.{nan, neg, of_bits}
use Rattle.solver.specs.Sums.{add_square, norm2_of}
use Rattle.nullspace.specs.Layout.{add_product}
use Rattle.nullspace.proofs.Zips.{zip-dot}
use Rattle.nullspace.proofs.reflect.products.Goals as goal

pub loop-i-init : goal.loop-i-init
unfolding norm2_of neg of_bits
loop-i-init c = (search rules, zip-dot _ _ _ c.requires.0 c.requires.1, refl)

pub loop-i-preserved : goal.loop-i-preserved
unfolding add_product add_square
loop-i-preserved c = (search rules, search (up_to-next, rules), search (fold_next nan add_square, rules))

pub returns : goal.returns
returns c = (search (up_to-done, rules), fold_done add_square c.args.v.now c.loop-i.i _ _ (search rules) c.loop-i.invariant.2)
