use Rattle.std.proofs.Common.{rules, add-one}
use Rattle.spelling.specs.Wholes.{more_digits}
use Rattle.spelling.proofs.wholes.whole.Goals as goal

pub loop-i-init : goal.loop-i-init
unfolding more_digits
loop-i-init c = search rules

pub loop-i-preserved : goal.loop-i-preserved
unfolding more_digits
loop-i-preserved c = rw (add-one, ← c.loop-i.invariant) c.more-n.ensures
