-- The row is lent beside the reflector. Assumes nothing.
use Prim.Native.Nat.{ℕ, ◌+◌, ◌*◌, ◌≤◌, ◌<◌}
use mathlib.Core.List.{List, ◌++◌}
use mathlib.Core.Path.{◌≡◌, refl}
use native.Mathlib.Nat.{zero-add, mul-le-mul_right}
use native.Mathlib.Omega.{arith}
use lib.Ieee.{Float}
use lib.ListN.{length, take, drop, set}
use lib.Seq.{length-take-le}
use Rattle.floats.specs.Ops.{◌⊖◌, ◌⊗◌}
use Rattle.loops.specs.Turns.{up_to}
use Rattle.loops.proofs.Picks.{pick_yes, pick_no}
use Rattle.solver.specs.Steps.{at, less_by, less_past}
use Rattle.solver.proofs.Rows.{row-updated}
use Rattle.nullspace.specs.Layout.{less_row_at, reflect_at}
use Rattle.nullspace.proofs.reflect.reflect_row.Goals as goal

turn : (off : ℕ) (f : Float) (i : ℕ) (s : List Float) → less_past off f (0 + i) s ≡ set s (off + i) (at s (off + i) ⊖ f ⊗ at s (0 + i))
unfolding less_past
turn off f i s = rw zero-add

put_back : (n j : ℕ) (f : Float) (t front back v y : List Float) → 0 < j → j * n + n ≤ length t → front ≡ take (j * n) t → back ≡ drop (j * n) t → v ≡ take n front
    → y ≡ up_to (length v) 0 (less_by v f) (take n back) → front ++ (y ++ drop n back) ≡ up_to n 0 (less_past (j * n) f) t
put_back n j f t front back v y h fit p b w e =
    let above : 0 + n ≤ j * n = omega (arith, mul-le-mul_right n h) in
    let long : length (take (j * n) t) ≡ j * n = length-take-le (j * n) t (omega arith) in
    let row : v ≡ take n (take (j * n) t) = rw (w, p) in
    let wide : length v ≡ n = rw row (length-take-le n (take (j * n) t) (omega (arith, long))) in
    rw (p, b) (rw zero-add at (row-updated (less_past (j * n) f) 0 (j * n) 0 n f (turn (j * n) f) t y above fit (rw (wide, row, b) at e)))

pub returns-then-f : goal.returns-then-f
unfolding reflect_at less_row_at
returns-then-f c =
    rw (← c.dot_row.ensures)
    (pick_yes _ _ _ _ c.if-f.true (put_back _ _ _ _ _ _ _ _ c.requires.0 c.requires.1 c.split_at_mut-above.ensures.front c.split_at_mut-above.ensures.back refl c.row_update.ensures))

pub returns-else-f : goal.returns-else-f
unfolding reflect_at less_row_at
returns-else-f c = rw (← c.dot_row.ensures) (pick_no _ _ _ _ c.if-f.false refl)
