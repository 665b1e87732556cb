use Rattle.std.proofs.Common.{◌≡◌, drop}
use Rattle.spelling.specs.Places.{named_or}
use Rattle.phrases.proofs.names.by_name.Given as goal

abbrev pub invariant-loop-k : goal.invariant-loop-k
invariant-loop-k g l = named_or g.K.Named.spelled l.s l.at l.failed (drop l.k-index l.all) ≡ named_or g.K.Named.spelled l.s l.at l.at l.all
