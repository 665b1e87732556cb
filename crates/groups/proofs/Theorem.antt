-- Over every build that passes the checks before the fit, the groups are exactly the chains: every touched point is among the 40,
-- so `Exactly` applies. Assumes nothing.
use Prim.Native.Nat.{ℕ, zero, suc, ◌≤◌, ◌<◌}
use mathlib.Core.Bool.{Bool, true, false}
use mathlib.Core.List.Memᴰ
use mathlib.Core.List.{List, [], ◌∷◌, ◌++◌, map, Memᴰ}
use mathlib.Core.Logic.{◌⊎◌, inl, inr, ◌↔◌}
use mathlib.Core.Path.{◌≡◌, sym, ◌∙◌}
use native.Mathlib.Decide.{dec_lt}
use native.Mathlib.Nat.{not-suc-le-zero, le_of_suc-le-suc}
use native.Mathlib.Omega.{arith}
use borrow.Author.Tests.{ltb-true}
use lib.ListN.{length, get_or, take, length-take, get_or-eq_default}
use lib.Seq.{get_or-take}
use Rattle.loops.specs.Turns.{every}
use Rattle.sketch.proofs.Every.{every-cons}
use Rattle.sketch.proofs.Given.{given-exactly}
use Rattle.sketch.proofs.Wholes.{found-lists}
use Rattle.sketch.proofs.Within.{within}
use Rattle.sketch.specs.Check.{check_of}
use Rattle.sketch.specs.Fields.{Field, point, line, value, size, axis, side, radius, contact, equation_fields}
use Rattle.sketch.specs.Indices.{is_point, is_line, found_field, found_line, found_active, found_measured}
use Rattle.sketch.specs.Involved.{no_line, line_at, ends, points_in, points_among, involved_of}
use Rattle.sketch.specs.Parts.{lines_of, equations_of, measures_of}
use Rattle.sketch.specs.declared.Active.{Active}
use Rattle.sketch.specs.declared.Build.{Build}
use Rattle.std.specs.Prelude.{Ok}
use Rattle.sketch.specs.declared.Line.{Line}
use Rattle.sketch.specs.declared.LineNo.{LineNo}
use Rattle.sketch.specs.declared.PointNo.{PointNo}
use Rattle.sketch.specs.declared.Rad.{Rad}
use Rattle.groups.specs.Chains.{Touches, Tied, GroupsAreChains}
use Rattle.groups.specs.Listed.{groups_of}
use Rattle.groups.specs.Tied.{tied_of}
use Rattle.groups.specs.Touches.{number, touched_in, touched_by}
use Rattle.sketch.specs.Blank.{blank_active}
use Rattle.groups.proofs.Exactly.{chains}
use Rattle.groups.proofs.Ties.{tied-all, tied-only}

-- what holds of every element holds of one
every-at : {A : Type 0} (p : A → Bool) (l : List A) (i : ℕ) (d : A) → every p l ≡ true → i < length l → p (get_or l i d) ≡ true
every-at p [] i d e h = absurd (not-suc-le-zero h)
every-at p (x ∷ l) zero d e h = (every-cons p x l e).0
every-at p (x ∷ l) (suc i) d e h = every-at p l i d (every-cons p x l e).1 (le_of_suc-le-suc h)

-- each number is below 40
abbrev Small : List ℕ → Type 0
Small [] = Unit {0}
Small (x ∷ l) = (x < 40) × Small l

small_at : (l : List ℕ) (p : ℕ) → Small l → Memᴰ p l → p < 40
small_at [] p s m = absurd (Memᴰ.not-nil m)
small_at (x ∷ l) p s m = go (Memᴰ.cases_cons m) (λ n. small_at l p s.1 n)
  where
    go : (p ≡ x) ⊎ Memᴰ p l → (Memᴰ p l → p < 40) → p < 40
    go (inl e) r = rw e s.0
    go (inr n) r = r n

small-append : (a b : List PointNo) → Small (map number a) → Small (map number b) → Small (map number (a ++ b))
small-append [] b s t = t
small-append (x ∷ a) b s t = (s.0, small-append a b s.1 t)

-- the points n, the lines m of the list ls
module _ (n m : ℕ) (ls : List Line) (few : n ≤ 40) (lines : every (found_line n) (take m ls) ≡ true) where
  below : (p : PointNo) → is_point n p ≡ true → number p < 40
  below p e = omega (arith, ltb-true p.0 n e)

  both_ends : (l : LineNo) → is_line m l ≡ true → Small (map number (ends ls l))
  both_ends l e = go (dec_lt l.0 (length (take m ls)))
    where
      h : l.0 < m
      h = ltb-true l.0 m e

      same : get_or (take m ls) l.0 no_line ≡ line_at ls l
      same = get_or-take m ls l.0 no_line h

      go : Dec (l.0 < length (take m ls)) → Small (map number (ends ls l))
      go (yes i) =
          let f : found_line n (line_at ls l) ≡ true = rw same at (every-at (found_line n) (take m ls) l.0 no_line lines i) in
          let t = every-cons (found_field n 0) (point (line_at ls l).from) (point (line_at ls l).to ∷ []) f in
          let u = every-cons (found_field n 0) (point (line_at ls l).to) [] t.1 in
          (below (line_at ls l).from t.0, (below (line_at ls l).to u.0, tt))
      go (no i) =
          let f : line_at ls l ≡ no_line = sym same ∙ get_or-eq_default (take m ls) no_line (omega arith) in
          rw f (omega arith, (omega arith, tt))

  -- a field that is found, and what an equation that is found touches
  field-small : (f : Field) → found_field n m f ≡ true → Small (map number (points_in ls f))
  field-small (point p) h = (below p h, tt)
  field-small (line l) h = both_ends l h
  field-small (value v) h = tt
  field-small (size v) h = tt
  field-small (axis a) h = tt
  field-small (side s) h = tt
  field-small (radius (Rad.Point p)) h = (below p h, tt)
  field-small (radius (Rad.Value v)) h = tt
  field-small (contact k) h = tt

  small : (l : List Field) → every (found_field n m) l ≡ true → Small (map number (points_among ls l))
  small [] h = tt
  small (f ∷ l) h =
      let t = every-cons (found_field n m) f l h in
      small-append (points_in ls f) (points_among ls l) (field-small f t.0) (small l t.1)

-- what is past the last equation touches nothing
past : (es : List Active) (ls : List Line) (k p : ℕ) → Touches (touched_in es ls) k p → k < length es
unfolding touched_in
past es ls k p m = go (dec_lt k (length es)) m
  where
    go : Dec (k < length es) → Memᴰ p (map number (involved_of ls (get_or es k blank_active).equation)) → k < length es
    go (yes h) m = h
    go (no h) m =
        let e : get_or es k blank_active ≡ blank_active = get_or-eq_default es blank_active (omega arith) in
        absurd (Memᴰ.not-nil (rw e at m))

module _ (b : Build) (passes : check_of b ≡ Ok tt) where
  counts : (b.point_count ≤ 40) × (b.line_count ≤ 40) × (b.equation_count ≤ 40) × (b.measure_count ≤ 20)
  counts = within b ((given-exactly b).passes.0 passes).0

  found : (every (found_line b.point_count) (lines_of b) ≡ true)
      × (every (found_active b.point_count b.line_count) (equations_of b) ≡ true)
      × (every (found_measured b.point_count b.line_count) (measures_of b) ≡ true)
  found = found-lists b ((given-exactly b).passes.0 passes).2

  inside : (k p : ℕ) → Touches (touched_by b) k p → p < 40
  unfolding touched_in
  inside k p m =
      let found_at = found_active b.point_count b.line_count in
      let e = every-at found_at (equations_of b) k blank_active found.1 (past (equations_of b) b.lines k p m) in
      small_at (touched_by b k) p
      (small b.point_count b.line_count b.lines counts.0 found.0 (equation_fields (get_or (equations_of b) k blank_active).equation) e)
      m

  pub groups-are-chains : GroupsAreChains (touched_by b) (groups_of (touched_by b) (length (equations_of b)))
  groups-are-chains =
      chains (touched_by b) (length (equations_of b)) (omega (arith, length-take b.equation_count b.equations, counts.2)) inside
      (past (equations_of b) b.lines)

  -- `tied_points` tells exactly the points that an equation touches
  pub tied-exactly : (p : ℕ) → get_or (tied_of (touched_by b) (length (equations_of b))) p false ≡ true ↔ Tied (touched_by b) p
  tied-exactly p = (
    tied-only (touched_by b) (length (equations_of b)) inside p,
    λ m. tied-all (touched_by b) (length (equations_of b)) inside m.0 p (past (equations_of b) b.lines m.0 p m.1) m.1,
  )
