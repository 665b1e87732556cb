-- `describes` (specs/Worst.antt), from what the largest of a list is: a residual of some equation is one of all. Assumes nothing.
use mathlib.Core.Bool.{false}
use mathlib.Core.List.{List, flat_map, Memᴰ}
use mathlib.Core.Logic.{◌⊎◌, inl, inr}
use mathlib.Core.Path.{◌≡◌, subst}
use lib.Ieee.{Float}
use lib.Ieee.Scale.{finite}
use Rattle.floats.proofs.Largest.{largest}
use Rattle.floats.specs.Largest.{counts_as}
use Rattle.floats.specs.Ops.{zero⁺}
use Rattle.loops.proofs.Flat.{in-flat, of-flat, in_map, of_map}
use Rattle.rows.specs.Entries.{Row}
use Rattle.sketch.specs.Parts.{equations_of}
use Rattle.sketch.specs.declared.Active.{Active}
use Rattle.sketch.specs.declared.Build.{Build}
use Rattle.plate.specs.Scale.{seen_at}
use Rattle.plate.specs.Worst.{residual_of, residuals_of, worst_of, rows_in, SomeResidual, Describes}

module _ (b : Build) (points : List Float) where
  abbrev all : List Float
  all = residuals_of b.lines (seen_at b points) (equations_of b)

  among : (a : Active) → Memᴰ a (equations_of b) → (row : Row) → Memᴰ row (rows_in b points a) → Memᴰ (residual_of row) all
  unfolding residuals_of
  among a m row i = in_map residual_of (flat_map (rows_in b points) (equations_of b)) (in-flat (rows_in b points) (equations_of b) m i)

  some : (P : Float → Type 0) → (v : Float) × Memᴰ v all × P v → SomeResidual b points P
  unfolding residuals_of
  some P t =
      let r = of_map residual_of (flat_map (rows_in b points) (equations_of b)) t.1 in
      let a = of-flat (rows_in b points) (equations_of b) r.1 in
      (a.0, a.1, r.0, a.2, subst P r.2 t.2)

  pub describes : Describes b points (worst_of b points)
  unfolding worst_of
  describes =
      let l = largest all in
      record {
        number = l.number;
        above = λ a m row i. l.above (residual_of row) (among a m row i);
        one_of = of l.one_of;
        infinite = (λ h. some (λ v. finite v ≡ false) (l.infinite.0 h), λ t. l.infinite.1 (residual_of t.2, among t.0 t.1 t.2 t.3, t.4));
      }
    where
      of : {w : Float} → (w ≡ zero⁺) ⊎ ((v : Float) × Memᴰ v all × (w ≡ counts_as v)) → (w ≡ zero⁺) ⊎ SomeResidual b points (λ v. w ≡ counts_as v)
      of (inl e) = inl e
      of {w} (inr t) = inr (some (λ v. w ≡ counts_as v) t)
