-- What the code lays, equation by equation, is what the definitions lay. Assumes nothing.
use Prim.Native.Nat.{ℕ, suc, ◌+◌, ◌*◌, ◌≤◌, ◌<◌}
use mathlib.Core.List.{List, [], ◌∷◌}
use mathlib.Core.Path.{◌≡◌, refl, ap, ◌∙◌}
use native.Mathlib.Nat.{add-mul}
use native.Mathlib.Omega.{arith}
use lib.Ieee.{Float}
use lib.ListN.{length, get_or, drop}
use Rattle.loops.specs.Turns.{fold}
use Rattle.loops.proofs.Turning.{fold_next}
use Rattle.plane.specs.declared.Vec2.{Vec2}
use Rattle.sketch.specs.declared.Active.{Active}
use Rattle.sketch.specs.declared.Equation.{Equation}
use Rattle.sketch.specs.declared.Line.{Line}
use Rattle.sketch.specs.declared.PointNo.{PointNo}
use Rattle.rows.specs.Column.{Laid, laid, equation_at, rows_at}
use Rattle.rows.specs.Ends.{ends_of, rows_given}
use Rattle.rows.specs.Entries.{Row}
use Rattle.rows.specs.Kinds.{rows_of_equation}
use Rattle.rows.specs.Located.{at_of}
use Rattle.rows.specs.declared.Ends.{Ends}
use Rattle.rows.proofs.Bounded.{bounded}
use Rattle.rows.proofs.Given.{given}
use Rattle.rows.proofs.Held.{past-is-held}
use Rattle.slopes.specs.Arms.{rows_from}
use Rattle.slopes.specs.Dense.{next_row, row_into, rows_next}

-- ---- the rows of one equation

count : Laid → ℕ
count (laid m j) = m

after : ℕ → Laid → Laid
after row (laid m j) = laid (row + m) j

module _ (P C : List ℕ) (n : ℕ) where
  rows-from : (row base : ℕ) (j : List Float) (rs : List Row) → base ≡ row * n
      → laid (row + length rs) (rows_from P C n base j rs) ≡ fold (next_row P C n) (laid row j) rs
  unfolding next_row
  rows-from row base j [] e = let z : row + 0 ≡ row = omega arith in ap (λ (k : ℕ). laid k j) z
  rows-from row base j (r ∷ rs) e =
      let next : base + n ≡ (row + 1) * n = rw (e, add-mul row 1 n) (omega arith) in
      let rest = rows-from (row + 1) (base + n) (row_into P C n base j r.entries) rs next in
      let more : row + suc (length rs) ≡ row + 1 + length rs = omega arith in
      ap (λ (k : ℕ). laid k (rows_from P C n (base + n) (row_into P C n base j r.entries) rs)) more ∙ rest ∙ ap (λ (k : ℕ). fold (next_row P C n) (laid (row + 1) (row_into P C n k j r.entries)) rs) e

  module _ (ls : List Line) (at : PointNo → Vec2) (e : Equation) (s : Ends) (row m : ℕ) (j j' : List Float) (p : s ≡ ends_of ls e) (h : laid m j' ≡ laid (length (rows_given s at e)) (rows_from P C n (row * n) j (rows_given s at e))) where
    pub rows-laid : laid (row + m) j' ≡ fold (next_row P C n) (laid row j) (rows_of_equation ls at e)
    unfolding after
    rows-laid = ap (after row) h ∙ rows-from row (row * n) j (rows_given s at e) refl ∙ rw p (ap (fold (next_row P C n) (laid row j)) (given ls at e))

    pub few : m ≤ 2
    unfolding count
    few = let q : m ≡ length (rows_given s at e) = ap count h in rw q (bounded s at e)

-- ---- a turn of the loop over the chosen equations

module _ (es : List Active) (ls : List Line) (P : List ℕ) (x : List Float) (chosen : List ℕ) (i : ℕ) (h : i < length chosen) where
  pub rows-turn : (C : List ℕ) (n row row' : ℕ) (j j' : List Float) (e : Equation) (R : Laid) → e ≡ equation_at es (get_or chosen i 0)
      → laid row' j' ≡ fold (next_row P C n) (laid row j) (rows_of_equation ls (at_of P x) e)
      → fold (rows_next es ls P x C n) (laid row j) (drop i chosen) ≡ R → fold (rows_next es ls P x C n) (laid row' j') (drop (i + 1) chosen) ≡ R
  unfolding rows_next rows_at
  rows-turn C n row row' j j' e R p q t = fold_next 0 (rows_next es ls P x C n) chosen i (laid row j) (laid row' j') R h (rw p at q) t

  no_row : (C : List ℕ) (n row : ℕ) (j : List Float) → laid row j ≡ fold (next_row P C n) (laid row j) (rows_of_equation ls (at_of P x) Equation.Held)
  unfolding rows_of_equation
  no_row C n row j = refl

  pub rows-past : (C : List ℕ) (n row : ℕ) (j : List Float) (R : Laid) → length es ≤ get_or chosen i 0
      → fold (rows_next es ls P x C n) (laid row j) (drop i chosen) ≡ R → fold (rows_next es ls P x C n) (laid row j) (drop (i + 1) chosen) ≡ R
  rows-past C n row j R k t = rows-turn C n row row j j Equation.Held R (past-is-held es _ k) (no_row C n row j) t
