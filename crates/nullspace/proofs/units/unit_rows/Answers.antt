-- The rows are written one after another. Assumes nothing.
use native.Mathlib.Nat.{zero-mul, le_refl, mul-le-mul_right}
use Rattle.nullspace.proofs.Built.{one-row, part_length, take-built}
use Prim.Native.Nat.{ℕ, ◌+◌, ◌-◌, ◌*◌, ◌≤◌}
use mathlib.Core.List.{List, ◌++◌}
use mathlib.Core.Path.{◌≡◌, refl, sym, ap, ◌∙◌}
use native.Mathlib.Omega.{arith}
use lib.ListN.{length, take, drop}
use lib.Seq.{take_all}
use lib.Ieee.{Float}
use borrow.Author.Rules.{rules}
use Rattle.loops.specs.Turns.{up_to}
use Rattle.loops.proofs.Turning.{up_to-next, up_to-done}
use Rattle.loops.proofs.Cells.{cell_row}
use Rattle.nullspace.specs.Steps.{unit_of, unit_at}
use Rattle.nullspace.specs.Layout.{add_unit, unit_rows}
use Rattle.nullspace.proofs.units.unit_rows.Goals as goal

unit-turn : (n i : ℕ) (m w y : List Float) → i * n + n ≤ length w → length y ≡ length (take (i * n + n - i * n) (drop (i * n) w)) → y ≡ unit_of (take (i * n + n - i * n) (drop (i * n) m))
    → take ((i + 1) * n) (take (i * n) w ++ (y ++ drop (i * n + n - i * n) (drop (i * n) w))) ≡ add_unit n m i (take (i * n) w)
unfolding add_unit unit_at
unit-turn n i m w y h s e =
    let next : (i + 1) * n ≡ i * n + n = omega arith in
    rw next (take-built (i * n) n w y h s ∙ ap (λ y. take (i * n) w ++ y) (e ∙ ap unit_of (one-row (i * n) n m)))

at-end : (f : ℕ → List Float → List Float) (rows n i : ℕ) (w R : List Float) → rows ≤ i → i ≤ rows → length w ≡ rows * n → up_to rows i f (take (i * n) w) ≡ R → w ≡ R
at-end f rows n i w R h k e q =
    let all : length w ≤ i * n = omega (arith, mul-le-mul_right n h) in
    sym (take_all (i * n) w all) ∙ up_to-done f rows i (take (i * n) w) R h q

pub loop-i-init : goal.loop-i-init
unfolding unit_rows
loop-i-init c = (search rules, refl, rw zero-mul)

pub unit_row-requires : goal.unit_row-requires
unit_row-requires c = part_length (c.loop-i.i * c.args.n) _ _ (omega (arith, cell_row _ _ _ _ c.loop-i-test.true (le_refl (c.args.rows * c.args.n)))) ∙ sym (part_length (c.loop-i.i * c.args.n) _ _ (omega (arith, cell_row _ _ _ _ c.loop-i-test.true (le_refl (c.args.rows * c.args.n)))))

pub loop-i-preserved : goal.loop-i-preserved
loop-i-preserved c = (search rules, search rules, up_to-next _ _ _ _ _ _ c.loop-i-test.true (unit-turn c.args.n c.loop-i.i c.args.m.now c.loop-i.w c.unit_row.new.to (omega (arith, cell_row _ _ _ _ c.loop-i-test.true (le_refl (c.args.rows * c.args.n)))) c.unit_row.auto.to c.unit_row.ensures) c.loop-i.invariant.2)

pub returns : goal.returns
returns c = at-end _ _ _ c.loop-i.i _ _ (search rules) (search rules) (search rules) c.loop-i.invariant.2
