-- What a call on an equation of a build hands out are the points that the equation touches; so a turn of each sweep over the
-- equations is a turn of its definition. Assumes nothing.
use Prim.Native.Nat.{ℕ, ◌+◌, ◌<◌}
use mathlib.Core.Bool.{Bool}
use mathlib.Core.List.{List, map}
use mathlib.Core.Path.{◌≡◌, refl, ap, ◌∙◌}
use native.Mathlib.Omega.{arith}
use lib.ListN.{length, get_or, set}
use Rattle.loops.proofs.Parts.{any-default}
use Rattle.loops.proofs.Turning.{up_to-next}
use Rattle.loops.specs.Turns.{up_to}
use Rattle.sketch.specs.Blank.{blank_active}
use Rattle.sketch.specs.Involved.{involved_of, touched_of, named_by}
use Rattle.sketch.specs.Parts.{equations_of}
use Rattle.sketch.specs.declared.Active.{Active}
use Rattle.sketch.specs.declared.Build.{Build}
use Rattle.sketch.specs.declared.Equation.{Equation}
use Rattle.sketch.specs.declared.Line.{Line}
use Rattle.sketch.specs.declared.PointNo.{PointNo}
use Rattle.sketch.specs.declared.Rad.{Rad}
use Rattle.sketch.specs.declared.Touched.{Touched}
use Rattle.groups.specs.Listed.{group_of, list_equation}
use Rattle.groups.specs.Parents.{Gives, join_all}
use Rattle.groups.specs.Tied.{tie_all}
use Rattle.groups.specs.Touches.{number, touched_in, touched_by}

-- an equation touches at most four points, so none is cut off
whole : (ls : List Line) (e : Equation) → named_by (touched_of (involved_of ls e)) ≡ involved_of ls e
whole ls (Equation.Coincident a b) = refl
whole ls (Equation.Level a b axis) = refl
whole ls (Equation.Parallel i j) = refl
whole ls (Equation.Perpendicular i j) = refl
whole ls (Equation.Collinear i j) = refl
whole ls (Equation.Equal i j) = refl
whole ls Equation.Held = refl
whole ls (Equation.Distance a b value) = refl
whole ls (Equation.AxisDistance a b axis value side) = refl
whole ls (Equation.Length l value) = refl
whole ls (Equation.PointLine p l value side) = refl
whole ls (Equation.ArcEnds c f t) = refl
whole ls (Equation.Radius c f value) = refl
whole ls (Equation.LineCircle l c (Rad.Point p) side) = refl
whole ls (Equation.LineCircle l c (Rad.Value v) side) = refl
whole ls (Equation.CircleCircle c₁ (Rad.Point p₁) c₂ (Rad.Point p₂) contact) = refl
whole ls (Equation.CircleCircle c₁ (Rad.Point p₁) c₂ (Rad.Value v₂) contact) = refl
whole ls (Equation.CircleCircle c₁ (Rad.Value v₁) c₂ (Rad.Point p₂) contact) = refl
whole ls (Equation.CircleCircle c₁ (Rad.Value v₁) c₂ (Rad.Value v₂) contact) = refl
whole ls (Equation.LineArcAt l c p) = refl
whole ls (Equation.ArcArcAt c₁ c₂ p) = refl
whole ls (Equation.Midpoint p l) = refl
whole ls (Equation.ArcMidpoint p c f t) = refl
whole ls (Equation.Symmetric p q l) = refl
whole ls (Equation.EqualRadius c₁ f₁ c₂ f₂) = refl

-- equation k of a build, where the code has it as the k-th of a slice, and hands out the points that it touches
module _ (b : Build) (items : List Active) (k : ℕ) (d : Active) (t : Touched) (points : List PointNo) (is : items ≡ equations_of b)
    (h : k < length items) (p : points ≡ named_by t) (e : t ≡ touched_of (involved_of b.lines (get_or items k d).equation)) where
  abbrev n : ℕ
  n = length (equations_of b)

  abbrev touches : ℕ → List ℕ
  touches = touched_by b

  within : k < n
  within = omega (arith, ap length is)

  named : map number points ≡ touches k
  unfolding touched_in
  named =
      rw (p, e, any-default items k blank_active d h) (ap (map number) (whole b.lines (get_or items k d).equation))
      ∙ ap (λ es. map number (involved_of b.lines (get_or es k blank_active).equation)) is

  pub tie-turn : (s s' R : List Bool) → s' ≡ tie_all (map number points) s → up_to n k (λ k. tie_all (touches k)) s ≡ R
      → up_to n (k + 1) (λ k. tie_all (touches k)) s' ≡ R
  tie-turn s s' R q r = up_to-next (λ k. tie_all (touches k)) n k s s' R within (q ∙ ap (λ l. tie_all l s) named) r

  pub join-turn : (s s' R : List ℕ) → s' ≡ join_all (map number points) s → up_to n k (λ k. join_all (touches k)) s ≡ R
      → up_to n (k + 1) (λ k. join_all (touches k)) s' ≡ R
  join-turn s s' R q r = up_to-next (λ k. join_all (touches k)) n k s s' R within (q ∙ ap (λ l. join_all l s) named) r

  pub list-turn : (index : List ℕ) (g : Gives (List ℕ)) (ps of : List ℕ) (v : ℕ) (R : Gives (List ℕ)) → of ≡ set g.answer k v
      → v ≡ (group_of index (map number points) g.parents).answer → ps ≡ (group_of index (map number points) g.parents).parents
      → up_to n k (list_equation index touches) g ≡ R
      → up_to n (k + 1) (list_equation index touches) (record { parents = ps; answer = of }) ≡ R
  unfolding list_equation
  list-turn index g ps of v R o q p r =
      up_to-next (list_equation index touches) n k g (record { parents = ps; answer = of }) R within (rw (o, p, q, named)) r
