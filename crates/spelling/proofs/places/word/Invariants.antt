use Rattle.std.proofs.Common.{◌≡◌, drop}
use Rattle.spelling.specs.Places.{word_of}
use Rattle.spelling.proofs.places.word.Given as goal

abbrev pub invariant-loop-b : goal.invariant-loop-b
invariant-loop-b l = word_of l.s l.next (drop l.b-index l.w) ≡ word_of l.s l.at l.w
