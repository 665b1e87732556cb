-- A turn ends at the norm, or at `vv`, or goes on; in each case by the longest column that was found. Assumes nothing.
use Prim.Native.Nat.{ℕ}
use mathlib.Core.Bool.{Bool, true, false, cond}
use mathlib.Core.List.{List}
use mathlib.Core.Path.{◌≡◌, refl, ap, ◌∙◌}
use native.Mathlib.Omega.{arith}
use borrow.Author.Tests.{eq-eqb, ne_eqb}
use lib.Dec.{eqb}
use lib.ListN.{take}
use lib.Ieee.{Float, eq}
use Rattle.std.specs.Prelude.{Some, None}
use Rattle.floats.specs.Ops.{zero⁺}
use Rattle.solver.specs.Sums.{norm2_of}
use Rattle.loops.proofs.Picks.{pick_yes, pick_no}
use Rattle.loops.proofs.Cells.{cell_row}
use Rattle.nullspace.specs.Steps.{ended}
use Rattle.nullspace.specs.Layout.{Turned, begun, first_norm_of, largest_norm, longest_of, norm_at, reflected_by, reflector_at, turned, turns-on}
use borrow.Author.Rules.{rules}
use Rattle.nullspace.proofs.qr.turn.Goals as goal

module _ (n m k : ℕ) (first norm : Float) (t : List Float) (row : ℕ) (found : row ≡ longest_of n m k t) (size : norm ≡ norm_at n k t row) where
  norm-is : norm ≡ largest_norm n m k t
  unfolding largest_norm
  norm-is = size ∙ ap (norm_at n k t) found

  next-is : (x : Float) → x ≡ cond (eqb k 0) norm first → x ≡ first_norm_of n m k first t
  unfolding first_norm_of
  next-is x e = rw (← norm-is) e

  early : (b : Bool) → b ≡ ended first norm → b ≡ true → false ≡ turns-on n m k first t
  unfolding turns-on
  early b e o = rw (← norm-is, ← e, o)

  module _ (b : Bool) (e : b ≡ ended first norm) (o : b ≡ false) (t₁ : List Float) (made : t₁ ≡ reflector_at n k row norm t) (vv : Float) (square : vv ≡ norm2_of (take n t₁)) where
    begun-is : t₁ ≡ begun n m k t
    unfolding begun
    begun-is = rw (← norm-is, ← found) made

    late : eq vv zero⁺ ≡ true → false ≡ turns-on n m k first t
    unfolding turns-on
    late z = rw (← norm-is, ← e, o, ← begun-is, ← square, z)

    on : eq vv zero⁺ ≡ false → true ≡ turns-on n m k first t
    unfolding turns-on
    on z = rw (← norm-is, ← e, o, ← begun-is, ← square, z)

    left : (y : List Float) → y ≡ reflected_by n m vv t₁ → y ≡ turned n m k t
    unfolding turned
    left y q = rw (← begun-is, ← square) q

    goes-on : (y : List Float) → y ≡ reflected_by n m vv t₁ → eq vv zero⁺ ≡ false → (x : Float) → x ≡ cond (eqb k 0) norm first → Turned n m k first t y (Some x)
    goes-on y q z x e = record { next = rw (← on z) (ap Some (next-is x e)); left = λ o. left y q }

stopped : (n m k : ℕ) (first : Float) (t y : List Float) → false ≡ turns-on n m k first t → Turned n m k first t y None
stopped n m k first t y e = record { next = rw (← e) refl; left = λ o. cc }

pub returns-then-is_ended : goal.returns-then-is_ended
returns-then-is_ended c = let e = c.longest-best.ensures in stopped _ _ _ _ _ _ (early _ _ _ _ _ _ _ e.0 e.1.norm _ c.is_ended.ensures c.if-is_ended.true)

pub make_reflector-requires : goal.make_reflector-requires
make_reflector-requires c = (search rules, omega (arith, cell_row _ _ _ _ c.longest-best.ensures.1.within c.requires.1))

pub returns-then-vv : goal.returns-then-vv
returns-then-vv c = let e = c.longest-best.ensures in stopped _ _ _ _ _ _ (late _ _ _ _ _ _ _ e.0 e.1.norm _ c.is_ended.ensures c.if-is_ended.false _ c.make_reflector.ensures _ c.norm2-vv.ensures c.if-vv.true)

pub returns-then-k-eq0 : goal.returns-then-k-eq0
returns-then-k-eq0 c = let e = c.longest-best.ensures in
    goes-on _ _ _ _ _ _ _ e.0 e.1.norm _ c.is_ended.ensures c.if-is_ended.false _ c.make_reflector.ensures _ c.norm2-vv.ensures _ c.reflect_rows.ensures c.if-vv.false _ (pick_yes _ _ _ _ (eq-eqb _ _ c.if-k-eq0.true) refl)

pub returns-else-k-eq0 : goal.returns-else-k-eq0
returns-else-k-eq0 c = let e = c.longest-best.ensures in
    goes-on _ _ _ _ _ _ _ e.0 e.1.norm _ c.is_ended.ensures c.if-is_ended.false _ c.make_reflector.ensures _ c.norm2-vv.ensures _ c.reflect_rows.ensures c.if-vv.false _ (pick_no _ _ _ _ (ne_eqb _ _ c.if-k-eq0.false) refl)
