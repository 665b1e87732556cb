-- Over every build that passes the check before the fit: each point that is not fixed takes, on both axes, the coordinate of its
-- run's root, and nothing else changes. Assumes nothing.
use Prim.Native.Nat.{ℕ, zero, suc, ◌≤◌, ◌<◌}
use mathlib.Core.Bool.{Bool, true, false, cond}
use mathlib.Core.List.{List, [], ◌∷◌}
use mathlib.Core.Logic.{◌≢◌}
use mathlib.Core.Path.{◌≡◌, sym, ◌∙◌}
use native.Mathlib.Nat.{min-eq_left}
use native.Mathlib.Omega.{arith}
use borrow.Author.Tests.{ltb-true}
use lib.Dec.{eqb}
use lib.Ieee.{Float, nan}
use lib.ListN.{length, get_or, length-map}
use Rattle.loops.specs.Turns.{turns, up_to, every}
use Rattle.sketch.proofs.Every.{every-cons, every_of}
use Rattle.sketch.proofs.Given.{given-exactly}
use Rattle.sketch.proofs.Wholes.{found-lists}
use Rattle.sketch.proofs.Within.{within}
use Rattle.sketch.specs.Check.{check_of}
use Rattle.sketch.specs.Fields.{point, axis as the_axis}
use Rattle.sketch.specs.Indices.{found_field, found_equation, found_active}
use Rattle.sketch.specs.Parts.{equations_of}
use Rattle.sketch.specs.declared.Active.{Active}
use Rattle.sketch.specs.declared.Build.{Build}
use Rattle.std.specs.Prelude.{Ok}
use Rattle.sketch.specs.declared.Equation.{Equation}
use Rattle.level.specs.Fixed.{fixed_of, fixed_point}
use Rattle.level.specs.Level.{levels, nothing, asks_of, place, joined, level_axis, level_of}
use Rattle.level.specs.Parents.{alone}
use Rattle.level.specs.Runs.{Tied, Levelled}
use Rattle.level.proofs.Forest.{fixed_at}
use Rattle.level.proofs.Roots.{run_root, run-has, run-root}
use Rattle.level.proofs.Takes.{sweep-sized, sweep-taken, sweep-kept, sweep-other}

no : (n a b : ℕ) → nothing ≡ levels a b → (a < n) × (b < n)
no n a b h = let z : ◌≡◌ {A = ℕ} 0 1 = cc in absurd (omega arith)

-- what an equation asks for is among the n points
module _ (axis n m a b : ℕ) where
  level-found : (t : Bool) (p q : ℕ) → cond t (levels p q) nothing ≡ levels a b → (p < n) × (q < n) → (a < n) × (b < n)
  level-found true p q h i = let e : p ≡ a = cc in let f : q ≡ b = cc in (rw (← e) i.0, rw (← f) i.1)
  level-found false p q h i = no n a b h

  asked-found : (e : Equation) → found_equation n m e ≡ true → asks_of axis e ≡ levels a b → (a < n) × (b < n)
  asked-found (Equation.Coincident c d) g h = no n a b h
  asked-found (Equation.Level c d ax) g h =
      let t = every-cons (found_field n m) (point c) (point d ∷ the_axis ax ∷ []) g in
      let u = every-cons (found_field n m) (point d) (the_axis ax ∷ []) t.1 in
      level-found (eqb ax axis) c.0 d.0 h (ltb-true c.0 n t.0, ltb-true d.0 n u.0)
  asked-found (Equation.Parallel i j) g h = no n a b h
  asked-found (Equation.Perpendicular i j) g h = no n a b h
  asked-found (Equation.Collinear i j) g h = no n a b h
  asked-found (Equation.Equal i j) g h = no n a b h
  asked-found Equation.Held g h = no n a b h
  asked-found (Equation.Distance c d value) g h = no n a b h
  asked-found (Equation.AxisDistance c d along value side) g h = no n a b h
  asked-found (Equation.Length l value) g h = no n a b h
  asked-found (Equation.PointLine p l value side) g h = no n a b h
  asked-found (Equation.ArcEnds c f t) g h = no n a b h
  asked-found (Equation.Radius c f value) g h = no n a b h
  asked-found (Equation.LineCircle l c rad side) g h = no n a b h
  asked-found (Equation.CircleCircle c₁ r₁ c₂ r₂ contact) g h = no n a b h
  asked-found (Equation.LineArcAt l c p) g h = no n a b h
  asked-found (Equation.ArcArcAt c₁ c₂ p) g h = no n a b h
  asked-found (Equation.Midpoint p l) g h = no n a b h
  asked-found (Equation.ArcMidpoint p c f t) g h = no n a b h
  asked-found (Equation.Symmetric p q l) g h = no n a b h
  asked-found (Equation.EqualRadius c₁ f₁ c₂ f₂) g h = no n a b h

-- the two axes of a place
sides : (p q : ℕ) → place 0 p ≢ place 1 q
sides p q e = absurd (omega arith)

module _ (fixed : List Bool) (few : length fixed ≤ 40) (es : List Active) (n : ℕ)
    (small : (axis a b : ℕ) → Tied axis es a b → (a < 40) × (b < 40)) (points : List Float) where
  abbrev ρ : ℕ → ℕ → ℕ
  ρ axis = run_root fixed few axis es (small axis)

  abbrev one : List Float
  one = level_axis fixed es n 0 points

  abbrev two : List Float
  two = level_axis fixed es n 1 one

  module _ (axis : ℕ) (from : List Float) where
    sized : length (level_axis fixed es n axis from) ≡ length from
    unfolding level_axis
    sized = sweep-sized fixed few axis n (joined axis fixed es alone) (ρ axis) (run-has fixed few axis es (small axis)) from

    taken : (p : ℕ) → p < n → fixed_at fixed p ≡ false → place axis p < length from
        → get_or (level_axis fixed es n axis from) (place axis p) nan ≡ get_or from (place axis (ρ axis p)) nan
    unfolding level_axis
    taken = sweep-taken fixed few axis n (joined axis fixed es alone) (ρ axis) (run-has fixed few axis es (small axis)) from

    kept : (p : ℕ) → fixed_at fixed p ≡ true → get_or (level_axis fixed es n axis from) (place axis p) nan ≡ get_or from (place axis p) nan
    unfolding level_axis
    kept = sweep-kept fixed few axis n (joined axis fixed es alone) (ρ axis) (run-has fixed few axis es (small axis)) from

    other : (j : ℕ) → ((p : ℕ) → p < n → j ≢ place axis p) → get_or (level_axis fixed es n axis from) j nan ≡ get_or from j nan
    unfolding level_axis
    other = sweep-other fixed few axis n (joined axis fixed es alone) (ρ axis) (run-has fixed few axis es (small axis)) from

  both-axes : Levelled fixed es n points two
  both-axes = record {
    taken = λ axis p h l f k. (ρ axis p, run-root fixed few axis es (small axis) p, gets axis p h l f k);
    kept = keep;
    past = λ i h. other 1 one i (λ p l e. omega arith) ∙ other 0 points i (λ p l e. omega arith);
    sized = sized 1 one ∙ sized 0 points;
  }
    where
      gets : (axis p : ℕ) → axis < 2 → p < n → fixed_at fixed p ≡ false → place axis p < length points
          → get_or two (place axis p) nan ≡ get_or points (place axis (ρ axis p)) nan
      gets zero p h l f k = other 1 one (place 0 p) (λ q i e. sides p q e) ∙ taken 0 points p l f k
      gets (suc zero) p h l f k =
          taken 1 one p l f (rw (sized 0 points) k) ∙ other 0 points (place 1 (ρ 1 p)) (λ q i e. sides q (ρ 1 p) (sym e))
      gets (suc (suc axis)) p h l f k = absurd (omega arith)

      keep : (axis p : ℕ) → axis < 2 → fixed_at fixed p ≡ true → get_or two (place axis p) nan ≡ get_or points (place axis p) nan
      keep zero p h f = other 1 one (place 0 p) (λ q i e. sides p q e) ∙ kept 0 points p f
      keep (suc zero) p h f = kept 1 one p f ∙ other 0 points (place 1 p) (λ q i e. sides q p (sym e))
      keep (suc (suc axis)) p h f = absurd (omega arith)

-- the build's array of points has 40 places
module _ (b : Build) (array : length b.points ≤ 40) (passes : check_of b ≡ Ok tt) where
  count : b.point_count ≤ 40
  count = (within b ((given-exactly b).passes.0 passes).0).0

  found : every (found_active b.point_count b.line_count) (equations_of b) ≡ true
  found = (found-lists b ((given-exactly b).passes.0 passes).2).1

  small : (axis p q : ℕ) → Tied axis (equations_of b) p q → (p < 40) × (q < 40)
  small axis p q t =
      let e = every_of (found_active b.point_count b.line_count) (equations_of b) t.0 found t.1 in
      let h = asked-found axis b.point_count b.line_count p q t.0.equation e t.2 in
      (omega (arith, h.0, count), omega (arith, h.1, count))

  few : length (fixed_of b.points) ≤ 40
  unfolding fixed_of
  few = rw (length-map b.points fixed_point) array

  pub levelled : (points : List Float) → Levelled (fixed_of b.points) (equations_of b) b.point_count points (level_of b points)
  unfolding level_of up_to turns
  levelled points =
      rw (min-eq_left count)
      (both-axes (fixed_of b.points) few (equations_of b) b.point_count small points)
