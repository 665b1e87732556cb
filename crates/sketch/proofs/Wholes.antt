-- A build's fields list by list, as the code goes over them. Assumes nothing.
use mathlib.Core.Bool.{Bool, true, false, ◌&&◌}
use mathlib.Core.List.{[], ◌∷◌, ◌++◌}
use mathlib.Core.Path.{◌≡◌, refl, sym, ap, ◌∙◌}
use borrow.Author.Tests.{not-false}
use Rattle.loops.proofs.Picks.{both}
use Rattle.loops.specs.Turns.{every}
use Rattle.plane.specs.declared.Vec2.{Vec2}
use Rattle.sketch.specs.Check.{refers_to_nothing}
use Rattle.sketch.specs.Fields.{Field, size, place_fields, state_fields, point_fields, line_fields, equation_fields, measure_fields, build_fields}
use Rattle.sketch.specs.Indices.{found_in, found_line, found_active, found_measured, found_build}
use Rattle.sketch.specs.Numbers.{sized, bounded_field, bounded_vec, bounded_point, bounded_active, bounded_measured, bounded_build}
use Rattle.sketch.specs.Parts.{points_of, lines_of, equations_of, measures_of}
use Rattle.sketch.specs.declared.Active.{Active}
use Rattle.sketch.specs.declared.Build.{Build}
use Rattle.sketch.specs.declared.Line.{Line}
use Rattle.sketch.specs.declared.Measured.{Measured}
use Rattle.sketch.specs.declared.State.{State}
use Rattle.sketch.specs.declared.State.TheVariants.{Free, Kept, Placed}
use Rattle.sketch.proofs.Chained.{bounded-chain}
use Rattle.sketch.proofs.Every.{every_append, every-flat, every_true}

-- any test of the fields of a build
module _ (b : Build) (p : Field → Bool) where
  abbrev head : Bool
  head = every p (place_fields b.centre ++ size b.size ∷ [])

  abbrev points : Bool
  points = every (λ a. every p (point_fields a)) (points_of b)

  abbrev lines : Bool
  lines = every (λ a. every p (line_fields a)) (lines_of b)

  abbrev equations : Bool
  equations = every (λ a. every p (equation_fields a.equation)) (equations_of b)

  abbrev measures : Bool
  measures = every (λ a. every p (measure_fields a.measure)) (measures_of b)

  apart : every p (build_fields b) ≡ head && points && lines && equations && measures
  apart =
      rw (
        every_append p,
        every_append p,
        every_append p,
        every_append p,
        every-flat p point_fields (points_of b),
        every-flat p line_fields (lines_of b),
        every-flat p (λ (a : Active). equation_fields a.equation) (equations_of b),
        every-flat p (λ (a : Measured). measure_fields a.measure) (measures_of b),
      )

-- a test that the lines pass, and one that the first numbers and the points do
without-lines : (h p l e m : Bool) → l ≡ true → h && p && e && m ≡ h && p && l && e && m
without-lines true true l e m t = rw t
without-lines true false l e m t = refl
without-lines false p l e m t = refl

without-points : (h p l e m : Bool) → h ≡ true → p ≡ true → l && e && m ≡ h && p && l && e && m
without-points h p l e m t u = rw (t, u)

-- a line has no number that is bounded
line-bounded : (l : Line) → every bounded_field (line_fields l) ≡ true
line-bounded l = refl

module _ (b : Build) where
  head-bounded : bounded_vec b.centre && sized b.size ≡ head b bounded_field
  head-bounded =
      ap (λ r. bounded_vec b.centre && r) (bounded-chain (size b.size ∷ []) refl)
      ∙ sym (every_append bounded_field (place_fields b.centre) (size b.size ∷ []))

  pub bounded-whole : bounded_vec b.centre && sized b.size && every bounded_point (points_of b) && every bounded_active (equations_of b)
      && every bounded_measured (measures_of b) ≡ bounded_build b
  bounded-whole =
      ap (λ h. h && points b bounded_field && equations b bounded_field && measures b bounded_field) head-bounded
      ∙ without-lines (head b bounded_field) (points b bounded_field) (lines b bounded_field) (equations b bounded_field) (measures b bounded_field)
      (every_true (λ a. every bounded_field (line_fields a)) (lines_of b) line-bounded)
      ∙ sym (apart b bounded_field)

  -- the first numbers and the points refer to nothing
  head-found : head b (found_in b) ≡ true
  head-found = refl

  state-found : (v : Vec2) (s : State) → every (found_in b) (place_fields v ++ state_fields s) ≡ true
  state-found v Free = refl
  state-found v Kept = refl
  state-found v (Placed w) = refl

  pub found-whole : every (found_line b.point_count) (lines_of b) && every (found_active b.point_count b.line_count) (equations_of b)
      && every (found_measured b.point_count b.line_count) (measures_of b) ≡ found_build b
  found-whole =
      without-points _ (points b (found_in b)) _ _ _ head-found
      (every_true (λ a. every (found_in b) (point_fields a)) (points_of b) (λ p. state-found p.start p.state))
      ∙ sym (apart b (found_in b))

  pub found-lists : refers_to_nothing b ≡ false
      → (every (found_line b.point_count) (lines_of b) ≡ true)
      × (every (found_active b.point_count b.line_count) (equations_of b) ≡ true)
      × (every (found_measured b.point_count b.line_count) (measures_of b) ≡ true)
  found-lists h =
      let l = every (found_line b.point_count) (lines_of b) in
      let e = every (found_active b.point_count b.line_count) (equations_of b) in
      let t = both (l && e) (every (found_measured b.point_count b.line_count) (measures_of b)) (found-whole ∙ not-false (found_build b) h) in
      let u = both l e t.0 in
      (u.0, u.1, t.1)
