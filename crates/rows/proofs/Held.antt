-- What the code does with values that it holds is what the definitions do with the rows. Assumes nothing.
use Prim.Native.Nat.{ℕ, ◌+◌, ◌≤◌, ◌<◌}
use mathlib.Core.List.{List, [], ◌∷◌}
use mathlib.Core.Path.{◌≡◌, refl, sym, ap}
use native.Mathlib.Omega.{arith}
use lib.Ieee.{Float}
use lib.ListN.{length, set, get_or, drop, get_or-eq_default}
use Rattle.loops.specs.Turns.{fold}
use Rattle.loops.proofs.Turning.{fold_next}
use Rattle.plane.specs.declared.Vec2.{Vec2}
use Rattle.sketch.specs.Blank.{blank_active}
use Rattle.sketch.specs.declared.Active.{Active}
use Rattle.sketch.specs.declared.Equation.{Equation}
use Rattle.sketch.specs.declared.Line.{Line}
use Rattle.sketch.specs.declared.PointNo.{PointNo}
use Rattle.rows.proofs.Bounded.{bounded}
use Rattle.rows.proofs.Given.{given}
use Rattle.rows.specs.Column.{Laid, laid, equation_at, next_value, rows_at, values_next}
use Rattle.rows.specs.Ends.{ends_of, rows_given}
use Rattle.rows.specs.Entries.{Row, values_of}
use Rattle.rows.specs.Kinds.{rows_of_equation}
use Rattle.rows.specs.Located.{at_of}
use Rattle.rows.specs.declared.Ends.{Ends}
use Rattle.rows.specs.declared.answer.Values.{Values}

module _ (row : ℕ) (r : List Float) where
  -- what is stored of values from a row on
  abbrev pub stored : Values → Laid
  stored Values.None = laid row r
  stored (Values.One v) = laid (row + 1) (set r row v)
  stored (Values.Two v w) = laid (row + 2) (set (set r row v) (row + 1) w)

  all-stored : (rs : List Row) → length rs ≤ 2 → stored (values_of rs) ≡ fold next_value (laid row r) rs
  unfolding next_value
  all-stored [] b = refl
  all-stored (a ∷ []) b = refl
  all-stored (a ∷ c ∷ []) b = let e : row + 2 ≡ row + 1 + 1 = omega arith in ap (λ k. laid k (set (set r row a.value) (row + 1) c.value)) e
  all-stored (a ∷ c ∷ d ∷ rs) b = absurd (omega (arith, b))

  pub values-stored : (ls : List Line) (at : PointNo → Vec2) (e : Equation) (s : Ends) (v : Values) → s ≡ ends_of ls e → v ≡ values_of (rows_given s at e)
      → stored v ≡ fold next_value (laid row r) (rows_of_equation ls at e)
  values-stored ls at e s v p q = rw (q, p, ← given ls at e) (all-stored (rows_given (ends_of ls e) at e) (bounded (ends_of ls e) at e))

-- ---- a turn of the loop over the chosen equations

-- past the last equation there is `Held`
pub past-is-held : (es : List Active) (k : ℕ) → length es ≤ k → Equation.Held ≡ equation_at es k
past-is-held es k h = sym (ap (λ (a : Active). a.equation) (get_or-eq_default es blank_active {n = k} h))

module _ (es : List Active) (ls : List Line) (P : List ℕ) (x : List Float) (chosen : List ℕ) (i : ℕ) (h : i < length chosen) where
  pub values-turn : (row row' : ℕ) (r r' : List Float) (e : Equation) (R : Laid) → e ≡ equation_at es (get_or chosen i 0)
      → laid row' r' ≡ fold next_value (laid row r) (rows_of_equation ls (at_of P x) e)
      → fold (values_next es ls P x) (laid row r) (drop i chosen) ≡ R → fold (values_next es ls P x) (laid row' r') (drop (i + 1) chosen) ≡ R
  unfolding values_next rows_at
  values-turn row row' r r' e R p q t = fold_next 0 (values_next es ls P x) chosen i (laid row r) (laid row' r') R h (rw p at q) t

  no_value : (row : ℕ) (r : List Float) → laid row r ≡ fold next_value (laid row r) (rows_of_equation ls (at_of P x) Equation.Held)
  unfolding rows_of_equation
  no_value row r = refl

  pub values-past : (row : ℕ) (r : List Float) (R : Laid) → length es ≤ get_or chosen i 0
      → fold (values_next es ls P x) (laid row r) (drop i chosen) ≡ R → fold (values_next es ls P x) (laid row r) (drop (i + 1) chosen) ≡ R
  values-past row r R k t = values-turn row row r r Equation.Held R (past-is-held es _ k) (no_value row r) t
