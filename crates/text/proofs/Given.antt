-- Each of document 01's numbers 1, 2 and 3 is given exactly when its row says (specs/Given.antt). Assumes nothing.
use mathlib.Core.Bool.{Bool, true, false, not, ◌&&◌, ◌||◌}
use mathlib.Core.List.{List}
use mathlib.Core.Logic.{◌↔◌}
use mathlib.Core.Path.{◌≡◌}
use Prim.Native.Nat.{ℕ}
use Rattle.std.proofs.Common.{Result, Ok, Err}
use Rattle.sketch.specs.declared.Build.{Build}
use Rattle.sketch.specs.declared.Ending.TheVariants.{TooLong, BadForm, TooMany}
use Rattle.text.specs.Given.{ReadsExactly}
use Rattle.text.specs.Reader.{counts_at, over_counts, build_at, judged, too_long, bad_counts, bad_rest, read_of}

first : (t c o : Bool) (b : Result Build ℕ) → judged t c o b ≡ Err TooLong ↔ t ≡ true
first true c o b = (λ h. cc, λ h. cc)
first false true o b = (λ h. cc, λ h. cc)
first false false true b = (λ h. cc, λ h. cc)
first false false false (Err e) = (λ h. cc, λ h. cc)
first false false false (Ok b) = (λ h. cc, λ h. cc)

second : (t c o : Bool) (b : Result Build ℕ) → judged t c o b ≡ Err BadForm ↔ (t ≡ false) × (c || not o && bad_rest b ≡ true)
second true c o b = (λ h. (cc, cc), λ h. cc)
second false true o b = (λ h. (cc, cc), λ h. cc)
second false false true b = (λ h. (cc, cc), λ h. cc)
second false false false (Err e) = (λ h. (cc, cc), λ h. cc)
second false false false (Ok b) = (λ h. (cc, cc), λ h. cc)

third : (t c o : Bool) (b : Result Build ℕ) → judged t c o b ≡ Err TooMany ↔ (t ≡ false) × (c ≡ false) × (o ≡ true)
third true c o b = (λ h. (cc, cc, cc), λ h. cc)
third false true o b = (λ h. (cc, cc, cc), λ h. cc)
third false false true b = (λ h. (cc, cc, cc), λ h. cc)
third false false false (Err e) = (λ h. (cc, cc, cc), λ h. cc)
third false false false (Ok b) = (λ h. (cc, cc, cc), λ h. cc)

whole : (t c o : Bool) (b : Result Build ℕ) (r : Build) → judged t c o b ≡ Ok r ↔ (t ≡ false) × (c ≡ false) × (o ≡ false) × (b ≡ Ok r)
whole true c o b r = (λ h. (cc, cc, cc, cc), λ h. cc)
whole false true o b r = (λ h. (cc, cc, cc, cc), λ h. cc)
whole false false true b r = (λ h. (cc, cc, cc, cc), λ h. cc)
whole false false false (Err e) r = (λ h. (cc, cc, cc, cc), λ h. cc)
whole false false false (Ok b) r = (λ h. (cc, cc, cc, cc), λ h. cc)

pub reads-exactly : (s : List ℕ) → ReadsExactly s
unfolding read_of
reads-exactly s =
    let n = counts_at s 0 in
    let b = build_at s n in
    record {
      one = first (too_long s) (bad_counts n) (over_counts n) b;
      two = second (too_long s) (bad_counts n) (over_counts n) b;
      three = third (too_long s) (bad_counts n) (over_counts n) b;
      whole = whole (too_long s) (bad_counts n) (over_counts n) b;
    }
