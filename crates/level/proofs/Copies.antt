-- Levelling only copies: whatever is done to each coordinate apart is done before it or after it alike, if it keeps the NaN that a
-- place past the list's end is read as. Assumes nothing.
use Prim.Native.Nat.{ℕ, zero, suc, min}
use mathlib.Core.Bool.{Bool, true, false, cond}
use mathlib.Core.List.{List, [], ◌∷◌, map}
use mathlib.Core.Path.{◌≡◌, refl, sym, ap, ◌∙◌}
use native.Mathlib.Nat.{zero-add}
use lib.Ieee.{Float, nan}
use lib.ListN.{get_or, set, get_or-map}
use Rattle.loops.specs.Turns.{up_to}
use Rattle.loops.proofs.Turning.{up_to-part}
use Rattle.sketch.specs.Parts.{equations_of}
use Rattle.sketch.specs.declared.Active.{Active}
use Rattle.sketch.specs.declared.Build.{Build}
use Rattle.level.specs.Fixed.{fixed_of}
use Rattle.level.specs.Level.{place, follows, joined, level_point, level_points, level_axis, level_of}
use Rattle.level.specs.Parents.{Gives, find_of, alone}

-- what is done before each turn or after it alike is done before the loop or after it alike
up_to-map : {S : Type 0} (φ : S → S) (g : ℕ → S → S) → ((i : ℕ) (s : S) → g i (φ s) ≡ φ (g i s)) → (n : ℕ) (s : S)
    → up_to n 0 g (φ s) ≡ φ (up_to n 0 g s)
up_to-map φ g turn n s = rw (zero-add n) at (up_to-part φ 0 g g (λ i t. rw (zero-add i) (turn i t)) n 0 s)

module _ (f : Float → Float) (same : f nan ≡ nan) where
  set-map : (l : List Float) (i : ℕ) (x : Float) → set (map f l) i (f x) ≡ map f (set l i x)
  set-map [] i x = refl
  set-map (y ∷ l) zero x = refl
  set-map (y ∷ l) (suc i) x = ap (λ t. f y ∷ t) (set-map l i x)

  get-map : (l : List Float) (i : ℕ) → get_or (map f l) i nan ≡ f (get_or l i nan)
  get-map l i = ap (λ d. get_or (map f l) i d) (sym same) ∙ get_or-map f l i nan

  -- the copy of a coordinate, or none
  copy-map : (b : Bool) (l : List Float) (i j : ℕ)
      → cond b (set (map f l) i (get_or (map f l) j nan)) (map f l) ≡ map f (cond b (set l i (get_or l j nan)) l)
  copy-map true l i j = rw (get-map l j) (set-map l i (get_or l j nan))
  copy-map false l i j = refl

  abbrev on_answer : Gives (List Float) → Gives (List Float)
  on_answer s = record { parents = s.parents; answer = map f s.answer }

  point-map : (axis : ℕ) (fixed : List Bool) (p : ℕ) (s : Gives (List Float))
      → level_point axis fixed p (on_answer s) ≡ on_answer (level_point axis fixed p s)
  unfolding level_point
  point-map axis fixed p s =
      let r = find_of s.parents p in
      rw (copy-map (follows fixed r.answer p) s.answer (place axis p) (place axis r.answer))

  points-map : (axis : ℕ) (fixed : List Bool) (n : ℕ) (ps : List ℕ) (v : List Float)
      → level_points axis fixed n ps (map f v) ≡ map f (level_points axis fixed n ps v)
  unfolding level_points
  points-map axis fixed n ps v =
      ap (λ s. s.answer) (up_to-map on_answer (level_point axis fixed) (point-map axis fixed) n (record { parents = ps; answer = v }))

  axis-map : (fixed : List Bool) (es : List Active) (n axis : ℕ) (v : List Float)
      → level_axis fixed es n axis (map f v) ≡ map f (level_axis fixed es n axis v)
  unfolding level_axis
  axis-map fixed es n axis = points-map axis fixed n (joined axis fixed es alone)

pub copies : (f : Float → Float) → f nan ≡ nan → (b : Build) (v : List Float) → level_of b (map f v) ≡ map f (level_of b v)
unfolding level_of
copies f same b = up_to-map (map f) _ (axis-map f same (fixed_of b.points) (equations_of b) (min b.point_count 40)) 2
