-- A group's fit depends on its own part of the build alone (`own-part-alone`, said in specs/Own.antt): an equation's rows read the lines
-- only under the numbers that it names, so the two builds pose one problem, at whatever coordinates. Assumes nothing.
use Prim.Native.Nat.{ℕ, ◌+◌, ◌-◌}
use mathlib.Core.Bool.{Bool, true, false, cond}
use mathlib.Core.List.Memᴰ
use mathlib.Core.List.{List, [], ◌∷◌, ◌++◌, map, flat_map, Memᴰ}
use mathlib.Core.Logic.{◌⊎◌, inl, inr}
use mathlib.Core.Path.{◌≡◌, refl, ap, ap₂, ◌∙◌}
use lib.Dec.{eqb, ltb}
use lib.Ieee.{Float}
use lib.ListN.{length, set, replicate}
use Rattle.groups.specs.Listed.{grouping_of}
use Rattle.loops.specs.Turns.{fold}
use Rattle.members.specs.Lists.{listed_of, numbers_of, without_of}
use Rattle.members.specs.Movable.{points_at, free_from, coordinates_of, indices_of}
use Rattle.members.specs.Scale.{start_of}
use Rattle.members.specs.Tables.{places_of, columns_of}
use Rattle.nullspace.specs.Promise.{decomposed_of}
use Rattle.nullspace.specs.Steps.{rank_of}
use Rattle.plane.specs.declared.Vec2.{Vec2}
use Rattle.rounds.specs.Problem.{more_rows, row_count, dense_row, rows_for, values_at, jacobian_at}
use Rattle.rounds.specs.Solve.{solve_of}
use Rattle.rows.specs.Column.{equation_at, rows_at}
use Rattle.rows.specs.Entries.{Row}
use Rattle.rows.specs.Kinds.{
  parallel_of,
  perpendicular_of,
  collinear_of,
  equal_of,
  length_of,
  point_line_of,
  line_circle_of,
  line_arc_at_of,
  midpoint_of,
  symmetric_of,
  rows_of_equation,
}
use Rattle.rows.specs.Located.{at_of}
use Rattle.sketch.specs.Involved.{line_at, lines_named}
use Rattle.sketch.specs.Rows.{rows_of}
use Rattle.sketch.specs.declared.Build.{Build}
use Rattle.sketch.specs.declared.Equation.{Equation}
use Rattle.sketch.specs.declared.Line.{Line}
use Rattle.sketch.specs.declared.PointNo.{PointNo}
use Rattle.fit.specs.Fits.{outcome_in, gradients_of, freedom_of, converges, suspect, mark, suspects_of}
use Rattle.fit.specs.Frames.{frame_of, start_in}
use Rattle.fit.specs.Groups.{lowest_of, freedom_in, frame_in}
use Rattle.fit.specs.Own.{points_of_group, equations_of_group, SharesGroup, FitsAlike}
use Rattle.fit.specs.declared.Frame.{Frame}
use Rattle.fit.proofs.Sets.{points-back, equations-back}

-- ---- functions that agree on a list come to the same over it

abbrev Agree : {A B : Type 0} → (A → B) → (A → B) → List A → Type 0
Agree {A} f h l = (a : A) → Memᴰ a l → f a ≡ h a

module _ {A B : Type 0} {f h : A → B} where
  map_on : (l : List A) → Agree f h l → map f l ≡ map h l
  map_on [] e = refl
  map_on (a ∷ l) e = ap₂ ◌∷◌ (e a (Memᴰ.head refl)) (map_on l (λ c m. e c (Memᴰ.tail m)))

module _ {A B : Type 0} {f h : A → List B} where
  flat_map-on : (l : List A) → Agree f h l → flat_map f l ≡ flat_map h l
  unfolding flat_map
  flat_map-on [] e = refl
  flat_map-on (a ∷ l) e = ap₂ ◌++◌ (e a (Memᴰ.head refl)) (flat_map-on l (λ c m. e c (Memᴰ.tail m)))

module _ {A S : Type 0} {f h : S → A → S} where
  fold_on : (l : List A) (s : S) → ((t : S) → Agree (f t) (h t) l) → fold f s l ≡ fold h s l
  fold_on [] s e = refl
  fold_on (a ∷ l) s e = ap (λ t. fold f t l) (e s a (Memᴰ.head refl)) ∙ fold_on l (h s a) (λ t c m. e t c (Memᴰ.tail m))

-- what is left without one number was there
without_in : (k : ℕ) (l : List ℕ) (c : ℕ) → Memᴰ c (without_of k l) → Memᴰ c l
unfolding without_of
without_in k [] c m = m
without_in k (a ∷ l) c m = go (eqb a k) m (λ n. without_in k l c n)
  where
    at : (c ≡ a) ⊎ Memᴰ c (without_of k l) → (Memᴰ c (without_of k l) → Memᴰ c l) → Memᴰ c (a ∷ l)
    at (inl e) f = Memᴰ.head e
    at (inr n) f = Memᴰ.tail (f n)

    go : (b : Bool) → Memᴰ c (cond b (without_of k l) (a ∷ without_of k l)) → (Memᴰ c (without_of k l) → Memᴰ c l) → Memᴰ c (a ∷ l)
    go true n f = Memᴰ.tail (f n)
    go false n f = at (Memᴰ.cases_cons n) f

-- ---- an equation reads the lines that it names and no other

module _ (ls ls' : List Line) (at : PointNo → Vec2) where
  rows_on : (e : Equation) → Agree (line_at ls) (line_at ls') (lines_named e) → rows_of_equation ls at e ≡ rows_of_equation ls' at e
  unfolding rows_of_equation
  rows_on (Equation.Coincident a b) h = refl
  rows_on (Equation.Level a b axis) h = refl
  rows_on (Equation.Parallel i j) h = ap₂ (parallel_of at) (h i (Memᴰ.head refl)) (h j (Memᴰ.tail (Memᴰ.head refl)))
  rows_on (Equation.Perpendicular i j) h = ap₂ (perpendicular_of at) (h i (Memᴰ.head refl)) (h j (Memᴰ.tail (Memᴰ.head refl)))
  rows_on (Equation.Collinear i j) h = ap₂ (collinear_of at) (h i (Memᴰ.head refl)) (h j (Memᴰ.tail (Memᴰ.head refl)))
  rows_on (Equation.Equal i j) h = ap₂ (equal_of at) (h i (Memᴰ.head refl)) (h j (Memᴰ.tail (Memᴰ.head refl)))
  rows_on Equation.Held h = refl
  rows_on (Equation.Distance a b value) h = refl
  rows_on (Equation.AxisDistance a b axis value side) h = refl
  rows_on (Equation.Length l value) h = ap (λ m. length_of at m value) (h l (Memᴰ.head refl))
  rows_on (Equation.PointLine p l value side) h = ap (λ m. point_line_of at p m value side) (h l (Memᴰ.head refl))
  rows_on (Equation.ArcEnds c f t) h = refl
  rows_on (Equation.Radius c f value) h = refl
  rows_on (Equation.LineCircle l c rad side) h = ap (λ m. line_circle_of at m c rad side) (h l (Memᴰ.head refl))
  rows_on (Equation.CircleCircle c₁ r₁ c₂ r₂ contact) h = refl
  rows_on (Equation.LineArcAt l c p) h = ap (λ m. line_arc_at_of at m c p) (h l (Memᴰ.head refl))
  rows_on (Equation.ArcArcAt c₁ c₂ p) h = refl
  rows_on (Equation.Midpoint p l) h = ap (midpoint_of at p) (h l (Memᴰ.head refl))
  rows_on (Equation.ArcMidpoint p c f t) h = refl
  rows_on (Equation.Symmetric p q l) h = ap (symmetric_of at p q) (h l (Memᴰ.head refl))
  rows_on (Equation.EqualRadius c₁ f₁ c₂ f₂) h = refl

-- ---- two builds that agree on the equations of a list, and on the lines that these name, pose one problem

record AgreeOn (b b' : Build) (chosen : List ℕ) : Type 0 where
  equations : Agree (equation_at b.equations) (equation_at b'.equations) chosen
  lines : (k : ℕ) → Memᴰ k chosen → Agree (line_at b.lines) (line_at b'.lines) (lines_named (equation_at b.equations k))

less : {b b' : Build} {chosen : List ℕ} → AgreeOn b b' chosen → (k : ℕ) → AgreeOn b b' (without_of k chosen)
less {chosen = chosen} a k = record { equations = λ c m. a.equations c (without_in k chosen c m); lines = λ c m. a.lines c (without_in k chosen c m) }

module _ {b b' : Build} {chosen : List ℕ} (a : AgreeOn b b' chosen) where
  count-on : row_count b.equations chosen ≡ row_count b'.equations chosen
  unfolding row_count more_rows
  count-on = fold_on chosen 0 (λ n k m. ap (λ e. n + rows_of e) (a.equations k m))

  module _ (places : List ℕ) (x : List Float) where
    rows-at : (k : ℕ) → Memᴰ k chosen → rows_at b.equations b.lines places x k ≡ rows_at b'.equations b'.lines places x k
    unfolding rows_at
    rows-at k m =
        let at = at_of places x in
        rows_on b.lines b'.lines at (equation_at b.equations k) (a.lines k m) ∙ ap (rows_of_equation b'.lines at) (a.equations k m)

    rows-for : rows_for b.equations b.lines places chosen x ≡ rows_for b'.equations b'.lines places chosen x
    unfolding rows_for
    rows-for = flat_map-on chosen rows-at

    values-on : values_at b.equations b.lines places chosen x ≡ values_at b'.equations b'.lines places chosen x
    unfolding values_at
    values-on = ap (map (λ (row : Row). row.value)) rows-for

    jacobian-on : (columns : List ℕ) (n : ℕ)
        → jacobian_at b.equations b.lines places chosen columns n x ≡ jacobian_at b'.equations b'.lines places chosen columns n x
    unfolding jacobian_at
    jacobian-on columns n = ap (flat_map (λ (row : Row). dense_row places columns n row.entries)) rows-for

-- ---- so they come to the same in one frame

module _ {b b' : Build} (f : Frame) where
  outcome-on : {chosen : List ℕ} → start_in b f ≡ start_in b' f → AgreeOn b b' chosen → outcome_in b f chosen ≡ outcome_in b' f chosen
  outcome-on start a =
      λ i. solve_of
      (record { values = λ x. values-on a f.places x i; rows = count-on a i; free = indices_of f.free })
      (λ x. jacobian-on a f.places x f.columns (length (indices_of f.free)) i)
      (start i)

  module _ (a : AgreeOn b b' (numbers_of f.equations.0)) where
    freedom-on : (x : List Float) → freedom_in b f x ≡ freedom_in b' f x
    unfolding freedom_of gradients_of
    freedom-on x =
        let n = length (indices_of f.free) in
        ap₂ (λ rows j. cond (ltb 64 rows) 0 (n - rank_of (decomposed_of rows n j))) (count-on a) (jacobian-on a f.places x f.columns n)

    suspects-on : start_in b f ≡ start_in b' f → suspects_of b f ≡ suspects_of b' f
    unfolding suspects_of mark suspect
    suspects-on start =
        fold_on (numbers_of f.equations.0) (replicate 40 false) (λ marks k m. ap (λ o. set marks k (converges o)) (outcome-on start (less a k)))

-- ---- and the group has one frame and one start in both

module _ {b b' : Build} {g g' : ℕ} (s : SharesGroup b b' g g') where
  points-same : points_at b.points (points_of_group b g) ≡ points_at b'.points (points_of_group b' g')
  points-same = map_on (points_of_group b g) s.points ∙ ap (points_at b'.points) s.listed-points

  frames-same : frame_in b (grouping_of b) g ≡ frame_in b' (grouping_of b') g'
  unfolding frame_of
  frames-same =
      λ i. record {
        points = record { 0 = listed_of (s.listed-points i) };
        equations = record { 0 = listed_of (s.listed-equations i) };
        free = coordinates_of (free_from 0 (points-same i));
        places = places_of (s.listed-points i);
        columns = columns_of (free_from 0 (points-same i));
      }

  points-listed : points_at b.points (numbers_of (frame_in b (grouping_of b) g).points.0) ≡ points_at b'.points (numbers_of (frame_in b (grouping_of b) g).points.0)
  points-listed = rw (points-back b.points (grouping_of b) g) (map_on (points_of_group b g) s.points)

  start-same : start_in b (frame_in b (grouping_of b) g) ≡ start_in b' (frame_in b (grouping_of b) g)
  start-same = λ i. start_of (s.centre i) (s.size i) (points-listed i)

  agree : AgreeOn b b' (equations_of_group b g)
  agree = record { equations = s.equations; lines = s.lines }

  agree-listed : AgreeOn b b' (numbers_of (frame_in b (grouping_of b) g).equations.0)
  agree-listed = rw (equations-back b.points (grouping_of b) g) agree

  pub own-part-alone : FitsAlike b b' g g'
  own-part-alone =
      let f = frame_in b (grouping_of b) g in
      record {
        fit = outcome-on f start-same agree-listed ∙ ap (λ f'. outcome_in b' f' (numbers_of f'.equations.0)) frames-same;
        freedom = λ x. freedom-on f agree-listed x ∙ ap (λ f'. freedom_in b' f' x) frames-same;
        residuals = λ x k m. ap (map (λ (row : Row). row.value)) (rows-at agree f.places x k m) ∙ ap (λ (f' : Frame). map (λ (row : Row). row.value) (rows_at b'.equations b'.lines f'.places x k)) frames-same;
        suspects = suspects-on f agree-listed start-same ∙ ap (suspects_of b') frames-same;
        lowest = ap lowest_of frames-same;
      }
