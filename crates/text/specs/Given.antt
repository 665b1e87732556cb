-- Each of document 01's numbers 1, 2 and 3 is given exactly when its own row holds and no earlier one does: 1; the form of the
-- four count lines (2); 3; the rest of the form (2).
use Rattle.std.specs.Prelude.{true, false, not, ◌&&◌, ◌||◌, List, ◌↔◌, ◌≡◌, ℕ, Ok, Err}
use Rattle.sketch.specs.declared.Build.{Build}
use Rattle.sketch.specs.declared.Ending.TheVariants.{TooLong, BadForm, TooMany}
use Rattle.text.specs.Reader.{counts_at, over_counts, build_at, too_long, bad_counts, bad_rest, read_of}

pub record ReadsExactly (s : List ℕ) : Type 0 where
  pub one : read_of s ≡ Err TooLong ↔ too_long s ≡ true
  pub two : read_of s ≡ Err BadForm
      ↔ (too_long s ≡ false) × (bad_counts (counts_at s 0) || not (over_counts (counts_at s 0)) && bad_rest (build_at s (counts_at s 0)) ≡ true)
  pub three : read_of s ≡ Err TooMany
      ↔ (too_long s ≡ false) × (bad_counts (counts_at s 0) ≡ false) × (over_counts (counts_at s 0) ≡ true)
  pub whole : (b : Build) → read_of s ≡ Ok b
      ↔ (too_long s ≡ false) × (bad_counts (counts_at s 0) ≡ false) × (over_counts (counts_at s 0) ≡ false) × (build_at s (counts_at s 0) ≡ Ok b)
