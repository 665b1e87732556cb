-- `root::root` meets its contract: the whole number's root, placed, is the pattern that the definition finds. Assumes nothing.
use mathlib.Core.Path.{sym, ap}
use native.Mathlib.Omega.{arith}
use lib.Ieee.{binary64, of_bits}
use Rattle.root.proofs.Whole.{root-small}
use Rattle.root.proofs.Place.{inside-le, root_is}
use Rattle.root.proofs.Patterns.{no_nan}
use Rattle.root.proofs.root.Goals as goal

pub float_from_bits-result : goal.float_from_bits-result
float_from_bits-result c = no_nan _ (omega (arith, root-small _ c.settle-r.result (inside-le c.args.m c.args.k c.requires.0 c.requires.1) c.settle-r.ensures.0))

pub returns : goal.returns
returns c =
    ap (of_bits binary64) (sym (root_is c.args.m c.args.k c.requires.0 c.requires.1 c.requires.2 c.settle-r.result c.settle-r.ensures))
