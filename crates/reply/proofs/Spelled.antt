-- A reply's numbers are spelled as a job's. Assumes nothing.
use mathlib.Core.List.{[], ◌∷◌, ◌++◌}
use mathlib.Core.Path.{refl, ap}
use native.Mathlib.Omega.{arith}
use Rattle.spelling.proofs.Digits.{decimal-more}
use Rattle.reply.specs.Figures.{whole, float}
use Rattle.reply.specs.Theorems.{AsInAJob}

pub as-in-a-job : AsInAJob
unfolding whole float
as-in-a-job = record {
  wholes = λ n b h. ap (λ l. l ++ b ∷ []) (decimal-more 4 19 n (omega arith) h);
  floats = λ x b. refl;
}
