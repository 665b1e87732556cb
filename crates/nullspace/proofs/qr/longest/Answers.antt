use mathlib.Core.Path.{refl}
use borrow.Author.Rules.{rules}
use Rattle.loops.proofs.Turning.{up_to-next, up_to-done}
use Rattle.loops.proofs.Cells.{cells}
use Rattle.nullspace.specs.Layout.{longest_of}
use Rattle.nullspace.proofs.qr.longest.Goals as goal

pub norm_from-requires : goal.norm_from-requires
norm_from-requires c = (search rules, search (cells, rules))

pub loop-j-init : goal.loop-j-init
unfolding longest_of
loop-j-init c = (search rules, record { within = search rules; norm = c.norm_from.ensures }, refl)

pub longer-best-requires : goal.longer-best-requires
longer-best-requires c = ((search rules, (search rules, search rules)), search rules)

pub loop-j-preserved : goal.loop-j-preserved
loop-j-preserved c = (search rules, search rules, search (up_to-next, rules))

pub returns : goal.returns
returns c = (search (up_to-done, rules), c.loop-j.invariant.1)
