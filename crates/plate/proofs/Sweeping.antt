-- The loop over the equations goes over all their residuals. Assumes nothing.
use Prim.Native.Nat.{◌≤◌}
use mathlib.Core.List.{List, [], ◌∷◌, map}
use mathlib.Core.Path.{◌≡◌, refl, sym, ap, ◌∙◌}
use native.Mathlib.Omega.{arith}
use lib.Ieee.{Float}
use lib.ListN.{length}
use Rattle.floats.specs.Largest.{larger_abs, max_abs_of}
use Rattle.floats.specs.Ops.{zero⁺}
use Rattle.loops.proofs.Flat.{map-flat, fold-parts}
use Rattle.loops.specs.Turns.{fold}
use Rattle.plane.specs.declared.Vec2.{Vec2}
use Rattle.rows.proofs.Bounded.{rows-of}
use Rattle.rows.specs.Entries.{Row, values_of}
use Rattle.rows.specs.Kinds.{rows_of_equation}
use Rattle.sketch.proofs.AtMostTwo.{two-at-most}
use Rattle.sketch.specs.declared.Active.{Active}
use Rattle.sketch.specs.declared.Line.{Line}
use Rattle.sketch.specs.declared.PointNo.{PointNo}
use Rattle.plate.specs.Inside.{larger_held, larger_with}
use Rattle.plate.specs.Worst.{residual_of, residuals_of}

-- what the code does with the values that it holds is done with every row
pub each_row : (m : Float) (rs : List Row) → length rs ≤ 2 → larger_held m (values_of rs) ≡ fold larger_abs m (map residual_of rs)
each_row m [] h = refl
each_row m (a ∷ []) h = refl
each_row m (a ∷ c ∷ []) h = refl
each_row m (a ∷ c ∷ d ∷ rs) h = absurd (omega (arith, h))

pub swept : (ls : List Line) (at : PointNo → Vec2) (es : List Active) → fold (larger_with ls at) zero⁺ es ≡ max_abs_of (residuals_of ls at es)
unfolding max_abs_of residuals_of
swept ls at es =
    fold-parts larger_abs (λ a. map residual_of (rows_of_equation ls at a.equation)) (larger_with ls at)
    (λ m a. each_row m (rows_of_equation ls at a.equation) (rw (rows-of ls at a.equation) (two-at-most a.equation))) es zero⁺
    ∙ ap (fold larger_abs zero⁺) (sym (map-flat (λ a. rows_of_equation ls at a.equation) residual_of es))
