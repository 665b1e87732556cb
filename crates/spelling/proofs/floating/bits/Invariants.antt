use Rattle.std.proofs.Common.{◌≡◌, ◌<◌, ◌^◌, Ok}
use Rattle.spelling.specs.Floating.{digits_at}
use Rattle.spelling.proofs.floating.bits.Given as goal

abbrev pub invariant-loop-i : goal.invariant-loop-i
invariant-loop-i l = record {
  read : digits_at l._i l.s l.at ≡ Ok (l.bits, l.next);
  small : l.bits < 16 ^ l._i;
}
