-- 4 and 5 in document 01's words, over the fields of the build and apart from the order in which the code goes through them:
-- `looks-everywhere` (proofs/Looked.antt).
use Rattle.std.specs.Prelude.{true, false, ◌↔◌, ◌≡◌}
use Rattle.loops.specs.Numbers.{refused}
use Rattle.sketch.specs.Check.{check_of, meaning_of, over_bound, out_of_bounds, refers_to_nothing}
use Rattle.sketch.specs.Indices.{SomeMissing}
use Rattle.sketch.specs.Numbers.{SomeOut}
use Rattle.sketch.specs.declared.Build.{Build}

pub record LooksEverywhere (b : Build) : Type 0 where
  -- some number is not finite or outside its bound; some point or line number is not below its count
  pub out : out_of_bounds b ≡ true ↔ SomeOut b
  pub missing : refers_to_nothing b ≡ true ↔ SomeMissing b
  -- so no count is over its bound, and some number is out; or none is, and something is missing
  pub four : meaning_of b (check_of b) ≡ refused 4 ↔ (over_bound b ≡ false) × SomeOut b
  pub five : meaning_of b (check_of b) ≡ refused 5 ↔ (over_bound b ≡ false) × (SomeOut b → ⊥) × SomeMissing b
