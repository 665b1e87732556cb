-- The pivot is too small, or the two rows change places and the rows below are cleared. Assumes nothing.
use Prim.Native.Nat.{ℕ, ◌+◌, ◌*◌}
use mathlib.Core.Bool.{true, false}
use mathlib.Core.List.{List}
use mathlib.Core.Path.{◌≡◌, refl, ap, ◌∙◌}
use lib.Ieee.{Float, le}
use Rattle.floats.specs.Ops.{◌⊗◌, 1e-15}
use Rattle.floats.specs.Magnitude.{abs_of}
use Rattle.loops.specs.Turns.{go, stop}
use Rattle.loops.proofs.Picks.{pick_yes, pick_no}
use Rattle.std.specs.Prelude.{Ok, Err}
use Rattle.solver.specs.declared.Unsolved.TheVariants.{NoPivot}
use Rattle.solver.specs.Inside.{Reaches}
use Rattle.solver.specs.Reasons.{some, or_no_pivot}
use Rattle.solver.specs.Lesser.{lesser_swapped, lesser_column}
use Rattle.solver.specs.Steps.{sys, at, pivot_of, below_of, singular}
use Rattle.solver.proofs.pivot.column.Goals as goal

module _ (n col piv : ℕ) (scale x : Float) (a b a₂ b₂ : List Float) (found : piv ≡ pivot_of n col a) (size : x ≡ abs_of (at a (piv * n + col))) where
  lacking : le x (scale ⊗ 1e-15) ≡ true → Reaches (or_no_pivot (lesser_column n scale col (sys a b)) col some) (sys a₂ b₂) (Err (NoPivot (col + 1)))
  unfolding lesser_column singular
  lacking t =
      let e : stop ≡ lesser_column n scale col (sys a b) = pick_yes _ _ _ _ (rw (size, found) at t) refl in
      rw (← e) record { answer = refl; left = λ t. cc }

  cleared : (a₁ b₁ : List Float) → le x (scale ⊗ 1e-15) ≡ false → sys a₁ b₁ ≡ lesser_swapped n col piv (sys a b) → sys a₂ b₂ ≡ below_of n col (sys a₁ b₁)
      → Reaches (or_no_pivot (lesser_column n scale col (sys a b)) col some) (sys a₂ b₂) (Ok tt)
  unfolding lesser_column singular
  cleared a₁ b₁ t s l =
      let e : go (sys a₂ b₂) ≡ lesser_column n scale col (sys a b) = pick_no _ _ _ _ (rw (size, found) at t) (ap go (l ∙ rw (s, found))) in
      rw (← e) record { answer = refl; left = λ t. refl }

pub returns-then-abs-scale : goal.returns-then-abs-scale
returns-then-abs-scale c = lacking _ _ _ _ _ _ _ _ _ c.pivot_row-piv.ensures.0 c.abs.ensures c.if-abs-scale.true

pub returns : goal.returns
returns c = cleared _ _ _ _ _ _ _ _ _ c.pivot_row-piv.ensures.0 c.abs.ensures _ _ c.if-abs-scale.false c.swap_in.ensures c.clear_below.ensures
