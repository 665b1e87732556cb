use Rattle.std.proofs.Common.{◌≡◌}
use Rattle.spelling.specs.Wholes.{more_digits}
use Rattle.spelling.proofs.wholes.whole.Given as goal

abbrev pub invariant-loop-i : goal.invariant-loop-i
invariant-loop-i l = l.n ≡ more_digits l._i l.s l.initial.n
