-- What levelling comes to, apart from how the roots are found: document 01, "Levelling". `es` are a build's equations, `fixed`
-- says which points are fixed, and the points' numbers stand in one list, two to a point.
use Rattle.std.specs.Prelude.{ℕ, ◌*◌, ◌≤◌, ◌<◌, Bool, true, false, ◌≡◌, Float, length, get_or}
use mathlib.Core.List.{List, Memᴰ}
use Rattle.std.specs.Float.{nan}
use Rattle.sketch.specs.declared.Active.{Active}
use Rattle.level.specs.Level.{levels, asks_of, place}
use Rattle.level.specs.Parents.{find_of, join_to, alone}

-- the parents that the sweeps come by
pub data Reached (fixed : List Bool) : List ℕ → Type 0 where
  start : Reached fixed alone
  found : {ps : List ℕ} (x : ℕ) → Reached fixed ps → Reached fixed (find_of ps x).parents
  joined : {ps : List ℕ} (a b : ℕ) → Reached fixed ps → Reached fixed (join_to fixed a b ps)

-- an equation asks for a and b to be level on the axis
abbrev pub Tied : ℕ → List Active → ℕ → ℕ → Type 0
Tied axis es a b = (e : Active) × Memᴰ e es × (asks_of axis e.equation ≡ levels a b)

-- p and q are in one run: such equations lead from one to the other, either way round
pub data Run (axis : ℕ) (es : List Active) : ℕ → ℕ → Type 0 where
  here : {p : ℕ} → Run axis es p p
  on : {p r q : ℕ} → Tied axis es p r → Run axis es r q → Run axis es p q
  back : {p r q : ℕ} → Tied axis es r p → Run axis es r q → Run axis es p q

-- r comes no later than q: a fixed point before one that is not, and otherwise the lower
abbrev pub Ahead : Bool → Bool → ℕ → ℕ → Type 0
Ahead true true r q = r ≤ q
Ahead true false r q = Unit {0}
Ahead false true r q = ⊥
Ahead false false r q = r ≤ q

-- r is the root of p's run: its lowest fixed point, else its lowest point
pub record Root (fixed : List Bool) (axis : ℕ) (es : List Active) (p r : ℕ) : Type 0 where
  pub inside : Run axis es p r
  pub first : (q : ℕ) → Run axis es p q → Ahead (get_or fixed r false) (get_or fixed q false) r q

-- `after` is `before` levelled, of n points
pub record Levelled (fixed : List Bool) (es : List Active) (n : ℕ) (before after : List Float) : Type 0 where
  -- every point that is not fixed takes its root's coordinate, on both axes
  pub taken : (axis p : ℕ) → axis < 2 → p < n → get_or fixed p false ≡ false → place axis p < length before
      → (r : ℕ) × Root fixed axis es p r × (get_or after (place axis p) nan ≡ get_or before (place axis r) nan)
  -- a fixed point keeps its coordinates, and what is no point's keeps its number
  pub kept : (axis p : ℕ) → axis < 2 → get_or fixed p false ≡ true → get_or after (place axis p) nan ≡ get_or before (place axis p) nan
  pub past : (i : ℕ) → 2 * n ≤ i → get_or after i nan ≡ get_or before i nan
  pub sized : length after ≡ length before
