-- Each of document 01's numbers 3 to 6 is given exactly when its own row holds and no earlier one does: `given-exactly`
-- (proofs/Given.antt).
use Rattle.std.specs.Prelude.{true, false, ◌↔◌, ◌≡◌, Ok}
use Rattle.loops.specs.Numbers.{refused}
use Rattle.sketch.specs.Check.{check_of, meaning_of, over_bound, out_of_bounds, refers_to_nothing, over_rows}
use Rattle.sketch.specs.declared.Build.{Build}

pub record GivenExactly (b : Build) : Type 0 where
  pub three : meaning_of b (check_of b) ≡ refused 3 ↔ over_bound b ≡ true
  pub four : meaning_of b (check_of b) ≡ refused 4 ↔ (over_bound b ≡ false) × (out_of_bounds b ≡ true)
  pub five : meaning_of b (check_of b) ≡ refused 5 ↔ (over_bound b ≡ false) × (out_of_bounds b ≡ false) × (refers_to_nothing b ≡ true)
  pub six : meaning_of b (check_of b) ≡ refused 6
      ↔ (over_bound b ≡ false) × (out_of_bounds b ≡ false) × (refers_to_nothing b ≡ false) × (over_rows b ≡ true)
  pub passes : check_of b ≡ Ok tt
      ↔ (over_bound b ≡ false) × (out_of_bounds b ≡ false) × (refers_to_nothing b ≡ false) × (over_rows b ≡ false)
