-- The largest magnitude, by the test that the code makes: what a list is gone over with is no NaN at any turn. Assumes nothing.
use mathlib.Core.Bool.{Bool, true, false, cond, ◌||◌, true≢false}
use mathlib.Core.List.{List, [], ◌∷◌}
use mathlib.Core.Path.{◌≡◌, refl, sym, ◌∙◌}
use lib.Ieee.{Float, nan, inf, fin, lt, is_nan}
use Rattle.floats.specs.Magnitude.{abs_of, max_of}
use Rattle.loops.specs.Turns.{fold}
use Rattle.solver.specs.Inside.{larger_number}
use Rattle.solver.specs.Steps.{larger_of}

nothing_above : (x : Float) → lt x nan ≡ false
unfolding lt
nothing_above nan = refl
nothing_above (inf s) = refl
nothing_above (fin s m e) = refl

above-is-number : (m a : Float) → lt m a ≡ true → is_nan a ≡ false
unfolding is_nan
above-is-number m nan t = absurd (true≢false (sym t ∙ nothing_above m))
above-is-number m (inf s) t = refl
above-is-number m (fin s n e) t = refl

same-larger : (m v : Float) → is_nan m ≡ false → larger_of m v ≡ larger_number m v
unfolding max_of
same-larger m v k = by (lt m (abs_of v))
  where
    by : (t : Bool) → cond (t || is_nan m) (abs_of v) m ≡ cond t (abs_of v) m
    by true = refl
    by false = rw k

larger-is-number : (m v : Float) → is_nan m ≡ false → is_nan (larger_number m v) ≡ false
larger-is-number m v k = by (lt m (abs_of v)) refl
  where
    by : (t : Bool) → lt m (abs_of v) ≡ t → is_nan (cond t (abs_of v) m) ≡ false
    by true e = above-is-number m (abs_of v) e
    by false e = k

pub same-scale : (a : List Float) (m : Float) → is_nan m ≡ false → fold larger_number m a ≡ fold larger_of m a
same-scale [] m k = refl
same-scale (v ∷ a) m k = rw (same-larger m v k) (same-scale a (larger_number m v) (larger-is-number m v k))
