-- `given-exactly`: the numbers 3 to 6 are given exactly when their rows say; and what `check` promises, from its answer alone. Assumes
-- nothing.
use mathlib.Core.Bool.{Bool, true, false}
use mathlib.Core.Logic.{◌↔◌}
use mathlib.Core.Path.{◌≡◌, refl, sym, ap, ◌∙◌}
use Prim.Native.Nat.{ℕ}
use Rattle.std.specs.Prelude.{Ok}
use Rattle.loops.specs.Numbers.{refused}
use Rattle.sketch.specs.Check.{Checked, Checks, check_of, meaning_of, numbered, ordered, over_bound, out_of_bounds, refers_to_nothing, over_rows}
use Rattle.sketch.specs.Given.{GivenExactly}
use Rattle.sketch.specs.declared.Build.{Build}

module _ (b : Build) where
  meant : (o u m r : Bool) → meaning_of b (ordered o u m r) ≡ numbered b o u m r
  meant true u m r = refl
  meant false true m r = refl
  meant false false true r = refl
  meant false false false true = refl
  meant false false false false = refl

  third : (o u m r : Bool) → numbered b o u m r ≡ refused 3 ↔ o ≡ true
  third true u m r = (λ h. cc, λ h. cc)
  third false true m r = (λ h. cc, λ h. cc)
  third false false true r = (λ h. cc, λ h. cc)
  third false false false true = (λ h. cc, λ h. cc)
  third false false false false = (λ h. cc, λ h. cc)

  fourth : (o u m r : Bool) → numbered b o u m r ≡ refused 4 ↔ (o ≡ false) × (u ≡ true)
  fourth true u m r = (λ h. (cc, cc), λ h. cc)
  fourth false true m r = (λ h. (cc, cc), λ h. cc)
  fourth false false true r = (λ h. (cc, cc), λ h. cc)
  fourth false false false true = (λ h. (cc, cc), λ h. cc)
  fourth false false false false = (λ h. (cc, cc), λ h. cc)

  fifth : (o u m r : Bool) → numbered b o u m r ≡ refused 5 ↔ (o ≡ false) × (u ≡ false) × (m ≡ true)
  fifth true u m r = (λ h. (cc, cc, cc), λ h. cc)
  fifth false true m r = (λ h. (cc, cc, cc), λ h. cc)
  fifth false false true r = (λ h. (cc, cc, cc), λ h. cc)
  fifth false false false true = (λ h. (cc, cc, cc), λ h. cc)
  fifth false false false false = (λ h. (cc, cc, cc), λ h. cc)

  sixth : (o u m r : Bool) → numbered b o u m r ≡ refused 6 ↔ (o ≡ false) × (u ≡ false) × (m ≡ false) × (r ≡ true)
  sixth true u m r = (λ h. (cc, cc, cc, cc), λ h. cc)
  sixth false true m r = (λ h. (cc, cc, cc, cc), λ h. cc)
  sixth false false true r = (λ h. (cc, cc, cc, cc), λ h. cc)
  sixth false false false true = (λ h. (cc, cc, cc, cc), λ h. cc)
  sixth false false false false = (λ h. (cc, cc, cc, cc), λ h. cc)

  passing : (o u m r : Bool) → ordered o u m r ≡ Ok tt ↔ (o ≡ false) × (u ≡ false) × (m ≡ false) × (r ≡ false)
  passing true u m r = (λ h. (cc, cc, cc, cc), λ h. cc)
  passing false true m r = (λ h. (cc, cc, cc, cc), λ h. cc)
  passing false false true r = (λ h. (cc, cc, cc, cc), λ h. cc)
  passing false false false true = (λ h. (cc, cc, cc, cc), λ h. cc)
  passing false false false false = (λ h. (cc, cc, cc, cc), λ h. cc)

  meaning-is : meaning_of b (check_of b) ≡ numbered b (over_bound b) (out_of_bounds b) (refers_to_nothing b) (over_rows b)
  unfolding check_of
  meaning-is = meant (over_bound b) (out_of_bounds b) (refers_to_nothing b) (over_rows b)

  -- a statement on the rows is one on the answer
  given : {A : Type 0} (n : ℕ) → (numbered b (over_bound b) (out_of_bounds b) (refers_to_nothing b) (over_rows b) ≡ refused n ↔ A)
      → meaning_of b (check_of b) ≡ refused n ↔ A
  given n f = (λ h. f.0 (sym meaning-is ∙ h), λ a. meaning-is ∙ f.1 a)

  pub checks : (r : Checked) → r ≡ check_of b → Checks b r
  checks r e = record { answer = e; meaning = ap (meaning_of b) e ∙ meaning-is }

  pub given-exactly : GivenExactly b
  unfolding check_of
  given-exactly = record {
    three = given 3 (third (over_bound b) (out_of_bounds b) (refers_to_nothing b) (over_rows b));
    four = given 4 (fourth (over_bound b) (out_of_bounds b) (refers_to_nothing b) (over_rows b));
    five = given 5 (fifth (over_bound b) (out_of_bounds b) (refers_to_nothing b) (over_rows b));
    six = given 6 (sixth (over_bound b) (out_of_bounds b) (refers_to_nothing b) (over_rows b));
    passes = passing (over_bound b) (out_of_bounds b) (refers_to_nothing b) (over_rows b);
  }
