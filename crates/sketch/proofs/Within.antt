-- Where no count is over its bound, each is within it. Assumes nothing.
use Prim.Native.Nat.{◌≤◌}
use mathlib.Core.Bool.{false}
use mathlib.Core.Path.{◌≡◌}
use borrow.Author.Tests.{ltb-false}
use lib.Dec.{ltb}
use Rattle.loops.proofs.Picks.{none_of_four}
use Rattle.sketch.specs.Check.{over_bound}
use Rattle.sketch.specs.declared.Build.{Build}

module _ (b : Build) (h : over_bound b ≡ false) where
  pub within : (b.point_count ≤ 40) × (b.line_count ≤ 40) × (b.equation_count ≤ 40) × (b.measure_count ≤ 20)
  within =
      let n = none_of_four (ltb 40 b.point_count) (ltb 40 b.line_count) (ltb 40 b.equation_count) (ltb 20 b.measure_count) h in
      (ltb-false 40 _ n.0, ltb-false 40 _ n.1, ltb-false 40 _ n.2, ltb-false 20 _ n.3)
