-- The part from the pivot on is lent to the update: what it does to the part is what the definition does to the whole. Assumes nothing.
use Prim.Native.Nat.{ℕ, ◌+◌, ◌-◌, ◌*◌, ◌≤◌, ◌<◌}
use mathlib.Core.List.{List, ◌++◌}
use mathlib.Core.Path.{◌≡◌, refl}
use native.Mathlib.Nat.{mul-le-mul_right}
use native.Mathlib.Omega.{arith}
use lib.Ieee.{Float}
use lib.ListN.{length, take, drop, set, length-drop}
use lib.Seq.{length-take-le}
use Rattle.floats.specs.Ops.{◌⊖◌, ◌⊗◌}
use Rattle.loops.specs.Turns.{up_to}
use Rattle.solver.specs.Steps.{at, less_at, less_by}
use Rattle.solver.proofs.Rows.{row-updated}
use Rattle.solver.proofs.below.less_part.Goals as goal

module _ (n col r : ℕ) (f : Float) where
  turn : (i : ℕ) (s : List Float) → less_at n col r f (col + i) s ≡ set s ((r * n + col) + i) (at s ((r * n + col) + i) ⊖ f ⊗ at s ((col * n + col) + i))
  unfolding less_at
  turn i s =
      let row : r * n + (col + i) ≡ (r * n + col) + i = omega arith in
      let pivot : col * n + (col + i) ≡ (col * n + col) + i = omega arith in
      rw (row, pivot)

  put_back : (a front back v y : List Float) → col < r → r < n → n * n ≤ length a → front ≡ take (r * n + col) a → back ≡ drop (r * n + col) a
      → v ≡ take ((col * n + col) + (n - col) - (col * n + col)) (drop (col * n + col) front) → y ≡ up_to (length v) 0 (less_by v f) (take (n - col) back)
      → front ++ (y ++ drop (n - col) back) ≡ up_to n col (less_at n col r f) a
  put_back a front back v y h q t p b w e =
      let hi : col + (n - col) ≡ n = omega arith in
      let len : (col * n + col) + (n - col) - (col * n + col) ≡ n - col = omega arith in
      let above : (col * n + col) + (n - col) ≤ r * n + col = omega (arith, mul-le-mul_right n h) in
      let fit : (r * n + col) + (n - col) ≤ length a = omega (arith, mul-le-mul_right n q) in
      let long : length (take (r * n + col) a) ≡ r * n + col = length-take-le (r * n + col) a (omega arith) in
      let row : v ≡ take (n - col) (drop (col * n + col) (take (r * n + col) a)) = rw (w, len, p) in
      let wide : length v ≡ n - col = rw row (length-take-le (n - col) (drop (col * n + col) (take (r * n + col) a)) (rw length-drop (omega (arith, long)))) in
      rw (p, b)
      (rw hi at
      (row-updated (less_at n col r f) col (r * n + col) (col * n + col) (n - col) f turn a y (omega arith) fit (rw (wide, row, b) at e)))

pub returns : goal.returns
returns c = put_back _ _ _ _ _ _ _ _ _ c.requires.0.0 c.requires.0.1 c.requires.1 c.split_at_mut-above.ensures.front c.split_at_mut-above.ensures.back refl c.row_update.ensures
