-- The largest magnitude of some numbers (solver.rs, `max_abs`), and what it tells.
use Rattle.std.specs.Prelude.{true, false, cond, ◌↔◌, ◌⊎◌, ◌≡◌, Float}
use mathlib.Core.List.{List, Memᴰ}
use Rattle.std.specs.Float.{inf}
use Rattle.std.specs.Float.Ieee.{le, is_nan}
use Rattle.std.specs.Float.Ieee.Scale.{finite}
use Rattle.loops.specs.Turns.{fold}
use Rattle.floats.specs.Magnitude.{abs_of, max_of}
use Rattle.floats.specs.Ops.{zero⁺}

-- `max_abs`: what is not finite counts as infinite
unfoldable pub larger_abs : Float → Float → Float
larger_abs m a = cond (finite a) (max_of m (abs_of a)) (inf false)

unfoldable pub max_abs_of : List Float → Float
max_abs_of v = fold larger_abs zero⁺ v

-- each is finite, and of magnitude at most the bound; so it is where `max_abs_of` is at most the bound (`all-within`, proofs/Largest.antt)
abbrev pub AllWithin : Float → List Float → Type 0
AllWithin bound v = (a : Float) → Memᴰ a v → (finite a ≡ true) × (le (abs_of a) bound ≡ true)

-- a number's magnitude, and infinity for a NaN
abbrev pub counts_as : Float → Float
counts_as a = cond (finite a) (abs_of a) (inf false)

-- what `max_abs_of` is (`largest`, proofs/Largest.antt): no NaN, at least what each of the numbers counts as, and +0.0 or what one of them
-- counts as; it is infinite exactly when one of them is not finite
pub record IsLargest (v : List Float) (m : Float) : Type 0 where
  pub number : is_nan m ≡ false
  pub above : (a : Float) → Memᴰ a v → le (counts_as a) m ≡ true
  pub one_of : (m ≡ zero⁺) ⊎ ((a : Float) × Memᴰ a v × (m ≡ counts_as a))
  pub infinite : m ≡ inf false ↔ (a : Float) × Memᴰ a v × (finite a ≡ false)
