-- The number of a build that a text means. Its counts are within their bounds and the lent places have room, so it is 4, 5, 6, 7 or 0,
-- each exactly when crates/job's theorems say. Assumes nothing.
use mathlib.Core.Bool.{Bool, true, false, cond}
use mathlib.Core.List.{List}
use mathlib.Core.Logic.{◌↔◌, ◌≢◌}
use mathlib.Core.Path.{◌≡◌, refl, sym, ap, ◌∙◌}
use Prim.Native.Nat.{ℕ, ◌<◌}
use native.Mathlib.Omega.{arith}
use borrow.Author.Tests.{le-ltb, ltb-false}
use lib.Dec.{eqb}
use lib.Ieee.{Float}
use lib.ListN.{length}
use Rattle.job.proofs.Numbered.{number_is}
use Rattle.job.proofs.Theorem.{given-exactly}
use Rattle.job.specs.Given.{SomeFails, AllFit, Sound, GivenExactly}
use Rattle.job.specs.Groups.{fit_of}
use Rattle.job.specs.Promise.{no_room, number_in, first_row, unfit, answer_after}
use Rattle.loops.proofs.Picks.{denied}
use Rattle.sketch.proofs.Looked.{looks-everywhere}
use Rattle.sketch.specs.Check.{number_of, over_bound, out_of_bounds, refers_to_nothing, over_rows}
use Rattle.sketch.specs.Indices.{SomeMissing}
use Rattle.sketch.specs.Numbers.{SomeOut}
use Rattle.sketch.specs.Rows.{rows_of_build}
use Rattle.sketch.specs.declared.Build.{Build}
use Rattle.sketch.specs.declared.Ending.{Ending}
use Rattle.sketch.specs.declared.Ending.TheVariants.{Fitted, TooLong, BadForm, TooMany, OutOfBounds, NoSuchItem, TooManyRows, NotConverged, TooShort}
use Rattle.run.specs.Promise.{room, came}
use Rattle.run.specs.Texts.{Passed}

-- an ending by its number
abbrev ending_at : ℕ → Ending
ending_at n =
    cond (eqb n 1) TooLong (cond (eqb n 2) BadForm (cond (eqb n 3) TooMany (cond (eqb n 4) OutOfBounds (cond (eqb n 5) NoSuchItem (cond (eqb n 6) TooManyRows (cond (eqb n 7) NotConverged (cond (eqb n 9) TooShort Fitted)))))))

at-number : (e : Ending) → e ≡ ending_at (number_of e)
at-number Fitted = refl
at-number TooLong = refl
at-number BadForm = refl
at-number TooMany = refl
at-number OutOfBounds = refl
at-number NoSuchItem = refl
at-number TooManyRows = refl
at-number NotConverged = refl
at-number TooShort = refl

-- no two endings have one number
pub by-number : (e f : Ending) → number_of e ≡ number_of f → e ≡ f
by-number e f h = at-number e ∙ ap ending_at h ∙ sym (at-number f)

-- neither 3 nor 9 comes after them
not-before : (u m r f : Bool) → (first_row false false u m r f ≢ 3) × (first_row false false u m r f ≢ 9)
not-before true m r f = (λ h. absurd (omega arith), λ h. absurd (omega arith))
not-before false true r f = (λ h. absurd (omega arith), λ h. absurd (omega arith))
not-before false false true f = (λ h. absurd (omega arith), λ h. absurd (omega arith))
not-before false false false true = (λ h. absurd (omega arith), λ h. absurd (omega arith))
not-before false false false false = (λ h. absurd (omega arith), λ h. absurd (omega arith))

module _ (p q r : List Float) (b : Build) where
  abbrev pub built_number : ℕ
  built_number = number_of (answer_after b (came p q r b)).ending

  module _ (few : over_bound b ≡ false) (lent : no_room b (length room) (length p) (length q) (length r) ≡ false) where
    given : GivenExactly b (length room) (length p) (length q) (length r)
    given = given-exactly b (length room) (length p) (length q) (length r)

    out : out_of_bounds b ≡ true ↔ SomeOut b
    out = (looks-everywhere b).out

    none_out : out_of_bounds b ≡ false ↔ (SomeOut b → ⊥)
    none_out = denied (out_of_bounds b) out

    missing : refers_to_nothing b ≡ true ↔ SomeMissing b
    missing = (looks-everywhere b).missing

    none-missing : refers_to_nothing b ≡ false ↔ (SomeMissing b → ⊥)
    none-missing = denied (refers_to_nothing b) missing

    is : built_number ≡ number_in b (length room) (length p) (length q) (length r)
    is = number_is b (length room) (length p) (length q) (length r)

    pub four-of : built_number ≡ 4 ↔ SomeOut b
    four-of = (λ h. out.0 (given.four.0 (sym is ∙ h)).2, λ u. is ∙ given.four.1 (few, lent, out.1 u))

    pub five-of : built_number ≡ 5 ↔ (SomeOut b → ⊥) × SomeMissing b
    five-of = (
      λ h. let t = given.five.0 (sym is ∙ h) in (none_out.0 t.2, missing.0 t.3),
      λ u. is ∙ given.five.1 (few, lent, none_out.1 u.0, missing.1 u.1),
    )

    pub six-of : built_number ≡ 6 ↔ (SomeOut b → ⊥) × (SomeMissing b → ⊥) × (64 < rows_of_build b)
    six-of = (
      λ h. let t = given.six.0 (sym is ∙ h) in (none_out.0 t.2, none-missing.0 t.3, t.4),
      λ u. is ∙ given.six.1 (few, lent, none_out.1 u.0, none-missing.1 u.1, u.2),
    )

    passed : Sound b (length room) (length p) (length q) (length r) → Passed b
    passed t = record { numbers = none_out.0 t.numbers; items = none-missing.0 t.items; rows = ltb-false 64 (rows_of_build b) t.rows }

    sound : Passed b → Sound b (length room) (length p) (length q) (length r)
    sound t = record {
      counts = few;
      room = lent;
      numbers = none_out.1 t.numbers;
      items = none-missing.1 t.items;
      rows = le-ltb 64 (rows_of_build b) t.rows;
    }

    pub seven-of : built_number ≡ 7 ↔ Passed b × SomeFails b
    seven-of = (λ h. let t = given.seven.0 (sym is ∙ h) in (passed t.0, t.1), λ u. is ∙ given.seven.1 (sound u.0, u.1))

    pub fitted-of : built_number ≡ 0 ↔ Passed b × AllFit b
    fitted-of = (λ h. let t = given.fitted.0 (sym is ∙ h) in (passed t.0, t.1), λ u. is ∙ given.fitted.1 (sound u.0, u.1))

    -- and none of the others
    pub not-of-text : (built_number ≢ 1) × (built_number ≢ 2)
    not-of-text = (λ h. given.not-of-text.0 (sym is ∙ h), λ h. given.not-of-text.1 (sym is ∙ h))

    later : built_number ≡ first_row false false (out_of_bounds b) (refers_to_nothing b) (over_rows b) (unfit (fit_of b))
    later = is ∙ rw (few, lent)

    pub three-of : built_number ≢ 3
    three-of h = (not-before (out_of_bounds b) (refers_to_nothing b) (over_rows b) (unfit (fit_of b))).0 (sym later ∙ h)

    pub nine-of : built_number ≢ 9
    nine-of h = (not-before (out_of_bounds b) (refers_to_nothing b) (over_rows b) (unfit (fit_of b))).1 (sym later ∙ h)
