-- What the equations of a build come to at given points, by the definition of their rows, and the largest of it. Document 02, K4: what is
-- not finite counts as infinite, and where no equation has a row it is +0.0.
use Rattle.std.specs.Prelude.{true, false, ◌↔◌, ◌⊎◌, ◌≡◌, Float}
use mathlib.Core.List.{List, map, flat_map, Memᴰ}
use Rattle.std.specs.Float.{inf}
use Rattle.std.specs.Float.Ieee.{le, is_nan}
use Rattle.std.specs.Float.Ieee.Scale.{finite}
use Rattle.floats.specs.Largest.{max_abs_of, counts_as}
use Rattle.floats.specs.Ops.{zero⁺}
use Rattle.plane.specs.declared.Vec2.{Vec2}
use Rattle.rows.specs.Entries.{Row}
use Rattle.rows.specs.Kinds.{rows_of_equation}
use Rattle.sketch.specs.Parts.{equations_of}
use Rattle.sketch.specs.declared.Active.{Active}
use Rattle.sketch.specs.declared.Build.{Build}
use Rattle.sketch.specs.declared.Line.{Line}
use Rattle.sketch.specs.declared.PointNo.{PointNo}
use Rattle.plate.specs.Scale.{seen_at}

abbrev pub residual_of : Row → Float
residual_of row = row.value

-- equations.rs, `residuals`, of some equations, one after another; `at` is where a point stands
unfoldable pub residuals_of : List Line → (PointNo → Vec2) → List Active → List Float
residuals_of ls at es = map residual_of (flat_map (λ (a : Active). rows_of_equation ls at a.equation) es)

-- the largest of all equations
unfoldable pub worst_of : Build → List Float → Float
worst_of b points = max_abs_of (residuals_of b.lines (seen_at b points) (equations_of b))

-- ---- what it tells

-- the rows of an equation of the build at these points
abbrev pub rows_in : Build → List Float → Active → List Row
rows_in b points a = rows_of_equation b.lines (seen_at b points) a.equation

-- some residual of some equation
abbrev pub SomeResidual : Build → List Float → (Float → Type 0) → Type 0
SomeResidual b points P = (a : Active) × Memᴰ a (equations_of b) × (row : Row) × Memᴰ row (rows_in b points a) × P (residual_of row)

-- worst describes the plate: no NaN, at least what each residual of each equation counts as, and +0.0 or what one of them counts as; it
-- is infinite exactly when one of them is not finite: `describes` (proofs/Describes.antt), of any build and any points
pub record Describes (b : Build) (points : List Float) (worst : Float) : Type 0 where
  pub number : is_nan worst ≡ false
  pub above : (a : Active) → Memᴰ a (equations_of b) → (row : Row) → Memᴰ row (rows_in b points a) → le (counts_as (residual_of row)) worst ≡ true
  pub one_of : (worst ≡ zero⁺) ⊎ SomeResidual b points (λ v. worst ≡ counts_as v)
  pub infinite : worst ≡ inf false ↔ SomeResidual b points (λ v. finite v ≡ false)
