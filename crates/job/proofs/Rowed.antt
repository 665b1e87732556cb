-- In a build that passes the check no group has more than 64 rows, so the freedom of each is free coordinates minus rank: its equations
-- are some of the build's, each once. Assumes nothing.
use Prim.Native.Nat.{ℕ, suc, ◌+◌, ◌≤◌, ◌<◌}
use mathlib.Core.Bool.{Bool, true, false, cond}
use mathlib.Core.List.Memᴰ
use mathlib.Core.List.{List, [], ◌∷◌, map, Memᴰ}
use mathlib.Core.Path.{◌≡◌, refl, ap, ◌∙◌}
use native.Mathlib.Decide.{dec_lt}
use native.Mathlib.Nat.{le_refl}
use native.Mathlib.Omega.{arith}
use borrow.Author.Tests.{le-ltb, ltb-false}
use lib.Dec.{eqb}
use lib.Ieee.{Float}
use lib.ListN.{length, get_or, take, drop, drop_of_length-le, length-take, get_or-eq_default}
use lib.Seq.{drop-cons, get_or-take}
use Rattle.std.specs.Prelude.{Ok}
use Rattle.fit.proofs.Sets.{equations-back}
use Rattle.fit.specs.Fits.{freedom_of}
use Rattle.fit.specs.Promise.{frame_over_rows}
use Rattle.fit.specs.Groups.{freedom_in, frame_in}
use Rattle.groups.proofs.Theorem.{groups-are-chains}
use Rattle.groups.specs.Chains.{Touches, places_from, equations_in}
use Rattle.groups.specs.Listed.{grouping_of}
use Rattle.groups.specs.Touches.{number, touched_in}
use Rattle.loops.specs.Turns.{fold}
use Rattle.rounds.specs.Problem.{more_rows, row_count}
use Rattle.rows.specs.Column.{equation_at}
use Rattle.sketch.specs.Blank.{blank_active}
use Rattle.sketch.specs.Check.{check_of}
use Rattle.sketch.proofs.Given.{given-exactly}
use Rattle.sketch.specs.Involved.{involved_of}
use Rattle.sketch.specs.Parts.{equations_of}
use Rattle.sketch.specs.Rows.{rows_of, rows_of_build}
use Rattle.sketch.specs.Rows as rows
use Rattle.sketch.specs.declared.Active.{Active}
use Rattle.sketch.specs.declared.Build.{Build}
use Rattle.sketch.specs.declared.Line.{Line}

-- rows are only added
grows : (l : List Active) (t : ℕ) → t ≤ fold rows.more_rows t l
unfolding rows.more_rows
grows [] t = le_refl t
grows (a ∷ l) t = omega (arith, grows l (t + rows_of a.equation))

nothing-held : rows_of blank_active.equation ≡ 0
unfolding rows_of
nothing-held = refl

module _ (es : List Active) where
  here : (i : ℕ) (t : ℕ) → i < length es → fold rows.more_rows t (drop i es) ≡ fold rows.more_rows (t + rows_of (equation_at es i)) (drop (suc i) es)
  unfolding rows.more_rows
  here i t h = rw (drop-cons es i blank_active h)

  ended : (i : ℕ) (t : ℕ) → length es ≤ i → fold rows.more_rows t (drop i es) ≡ t
  ended i t h = rw (drop_of_length-le es h)

  no_rows : (i : ℕ) → length es ≤ i → rows_of (equation_at es i) ≡ 0
  no_rows i h = ap (λ (a : Active). rows_of a.equation) (get_or-eq_default es blank_active h) ∙ nothing-held

  -- what is left of the rows, t so far, is no less with the equation at i than past it
  left : (i : ℕ) (t : ℕ) → fold rows.more_rows (t + rows_of (equation_at es i)) (drop (suc i) es) ≤ fold rows.more_rows t (drop i es)
  left i t = go (dec_lt i (length es))
    where
      go : Dec (i < length es) → fold rows.more_rows (t + rows_of (equation_at es i)) (drop (suc i) es) ≤ fold rows.more_rows t (drop i es)
      go (yes h) = rw (here i t h) (le_refl _)
      go (no h) =
          let e : length es ≤ i = omega arith in
          let f : length es ≤ suc i = omega arith in
          rw (ended i t e, ended (suc i) (t + rows_of (equation_at es i)) f, no_rows i e) (omega arith)

  -- some of the equations, each once, have no more rows than all
  some : (of : List ℕ) (g i s t : ℕ) → s ≤ t → fold (more_rows es) s (places_from i of g) ≤ fold rows.more_rows t (drop i es)
  unfolding places_from more_rows
  some [] g i s t h = omega (arith, grows (drop i es) t)
  some (x ∷ of) g i s t h = go (eqb x g)
      (omega (arith, left i t, some of g (suc i) (s + rows_of (equation_at es i)) (t + rows_of (equation_at es i)) (omega arith)))
      (omega (arith, left i t, some of g (suc i) s (t + rows_of (equation_at es i)) (omega arith)))
    where
      go : (b : Bool) → fold (more_rows es) (s + rows_of (equation_at es i)) (places_from (suc i) of g) ≤ fold rows.more_rows t (drop i es)
          → fold (more_rows es) s (places_from (suc i) of g) ≤ fold rows.more_rows t (drop i es)
          → fold (more_rows es) s (cond b (i ∷ places_from (suc i) of g) (places_from (suc i) of g)) ≤ fold rows.more_rows t (drop i es)
      go true p q = p
      go false p q = q

-- ---- the equations of a group are the build's

-- what is past the last equation touches nothing
past : (es : List Active) (ls : List Line) (k p : ℕ) → Touches (touched_in es ls) k p → k < length es
unfolding touched_in
past es ls k p m = go (dec_lt k (length es)) m
  where
    go : Dec (k < length es) → Memᴰ p (map number (involved_of ls (get_or es k blank_active).equation)) → k < length es
    go (yes h) m = h
    go (no h) m =
        let e : get_or es k blank_active ≡ blank_active = get_or-eq_default es blank_active (omega arith) in
        absurd (Memᴰ.not-nil (rw e at m))

-- only equations that the build counts have a part
counted : (es : List Active) (n : ℕ) (l : List ℕ) (s : ℕ) → ((k : ℕ) → Memᴰ k l → k < n) → fold (more_rows es) s l ≡ fold (more_rows (take n es)) s l
unfolding more_rows
counted es n [] s h = refl
counted es n (k ∷ l) s h =
    let e : equation_at (take n es) k ≡ equation_at es k = ap (λ (a : Active). a.equation) (get_or-take n es k blank_active (h k (Memᴰ.head refl))) in
    rw e (counted es n l (s + rows_of (equation_at es k)) (λ j m. h j (Memᴰ.tail m)))

module _ (b : Build) (passes : check_of b ≡ Ok tt) (g : ℕ) (among : g < (grouping_of b).count) where
  own : (k : ℕ) → Memᴰ k (equations_in (grouping_of b) g) → k < b.equation_count
  own k m =
      let touches = (groups-are-chains b passes).equation-only k g among m in
      omega (arith, past (equations_of b) b.lines k touches.0 touches.1, length-take b.equation_count b.equations)

  few : row_count b.equations (equations_in (grouping_of b) g) ≤ 64
  unfolding row_count
  few =
      rw (counted b.equations b.equation_count (equations_in (grouping_of b) g) 0 own)
      (omega (
        arith,
        some (equations_of b) (grouping_of b).of_equation g 0 0 0 (le_refl 0),
        ltb-false 64 (rows_of_build b) ((given-exactly b).passes.0 passes).3,
      ))

  pub never-over : frame_over_rows b (frame_in b (grouping_of b) g) ≡ false
  never-over = rw (equations-back b.points (grouping_of b) g) (le-ltb 64 _ few)

  pub freedom-is-freedom : (x : List Float) → freedom_in b (frame_in b (grouping_of b) g) x ≡ freedom_of b (frame_in b (grouping_of b) g) x
  freedom-is-freedom x = rw never-over
