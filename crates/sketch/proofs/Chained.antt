-- `bounded-chain`, `found-chain`: an item's fields as the code looks at them, which joins the tests of those that have one, is what 4 and
-- 5 ask of all of them. Assumes nothing.
use mathlib.Core.Bool.{Bool, true, false, ◌&&◌}
use mathlib.Core.List.{List, [], ◌∷◌, ◌++◌}
use mathlib.Core.Path.{◌≡◌, refl, sym, ◌∙◌}
use Prim.Native.Nat.{ℕ}
use Rattle.loops.specs.Turns.{every}
use Rattle.sketch.specs.Fields.{Field, point, line, value, size, axis, side, radius, contact}
use Rattle.sketch.specs.Indices.{is_point, is_line, found_rad, found_field}
use Rattle.sketch.specs.Numbers.{bounded, sized, is_side, is_axis, bounded_rad, bounded_contact, bounded_field}
use Rattle.sketch.proofs.Every.{every_append}

abbrev also : Bool → List Bool → Bool
also t [] = t
also t (u ∷ ts) = also (t && u) ts

abbrev all : List Bool → Bool
all [] = true
all (t ∷ ts) = also t ts

abbrev tests : {A : Type 0} → (A → List Bool) → List A → List Bool
tests q [] = []
tests q (x ∷ l) = q x ++ tests q l

abbrev same : Bool → Bool
same b = b

one : (t : Bool) → t && true ≡ t
one true = refl
one false = refl

also-is : (t : Bool) (l : List Bool) → also t l ≡ t && every same l
also-is t [] = sym (one t)
also-is t (u ∷ l) = also-is (t && u) l ∙ go t
  where
    go : (t : Bool) → (t && u) && every same l ≡ t && (u && every same l)
    go true = refl
    go false = refl

all-is : (l : List Bool) → all l ≡ every same l
all-is [] = refl
all-is (t ∷ l) = also-is t l

module _ {A : Type 0} (p : A → Bool) (q : A → List Bool) (alike : (x : A) → every same (q x) ≡ p x) where
  each : (l : List A) → every same (tests q l) ≡ every p l
  each [] = refl
  each (x ∷ l) = every_append same (q x) (tests q l) ∙ rw (alike x, each l)

  chain : (l : List A) → all (tests q l) ≡ every p l
  chain l = all-is (tests q l) ∙ each l

abbrev bounds : Field → List Bool
bounds (point p) = []
bounds (line l) = []
bounds (value v) = bounded v ∷ []
bounds (size v) = sized v ∷ []
bounds (axis a) = is_axis a ∷ []
bounds (side s) = is_side s ∷ []
bounds (radius r) = bounded_rad r ∷ []
bounds (contact k) = bounded_contact k ∷ []

bounds-are : (f : Field) → every same (bounds f) ≡ bounded_field f
bounds-are (point p) = refl
bounds-are (line l) = refl
bounds-are (value v) = one (bounded v)
bounds-are (size v) = one (sized v)
bounds-are (axis a) = one (is_axis a)
bounds-are (side s) = one (is_side s)
bounds-are (radius r) = one (bounded_rad r)
bounds-are (contact k) = one (bounded_contact k)

pub bounded-chain : {r : Bool} (l : List Field) → r ≡ all (tests bounds l) → r ≡ every bounded_field l
bounded-chain l e = e ∙ chain bounded_field bounds bounds-are l

module _ (n m : ℕ) where
  abbrev finds : Field → List Bool
  finds (point p) = is_point n p ∷ []
  finds (line l) = is_line m l ∷ []
  finds (value v) = []
  finds (size v) = []
  finds (axis a) = []
  finds (side s) = []
  finds (radius r) = found_rad n r ∷ []
  finds (contact k) = []

  finds-are : (f : Field) → every same (finds f) ≡ found_field n m f
  finds-are (point p) = one (is_point n p)
  finds-are (line l) = one (is_line m l)
  finds-are (value v) = refl
  finds-are (size v) = refl
  finds-are (axis a) = refl
  finds-are (side s) = refl
  finds-are (radius r) = one (found_rad n r)
  finds-are (contact k) = refl

  pub found-chain : {r : Bool} (l : List Field) → r ≡ all (tests finds l) → r ≡ every (found_field n m) l
  found-chain l e = e ∙ chain (found_field n m) finds finds-are l
