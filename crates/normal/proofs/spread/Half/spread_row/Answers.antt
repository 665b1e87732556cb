-- Assumes nothing.
use Prim.Native.Nat.{ℕ, ◌+◌, ◌*◌, ◌≤◌, ◌<◌}
use mathlib.Core.List.{List}
use mathlib.Core.Path.{◌≡◌, refl}
use native.Mathlib.Omega.{arith}
use borrow.Author.Rules.{rules}
use lib.Ieee.{Float, nan}
use lib.ListN.{length, get_or, set, length-set}
use Rattle.loops.proofs.Cells.{cells, cell_in}
use Rattle.loops.proofs.Turning.{up_to-next, up_to-done}
use Rattle.normal.specs.Half.{triangle, spread_one, spread_row}
use Rattle.normal.specs.Normal.{set_both}
use Rattle.normal.proofs.Halves.{halves}
use Rattle.normal.proofs.spread.Half.spread_row.Goals as goal

-- left of the diagonal
left : (n i k : ℕ) → k < i + 1 → i < n → k < n
left n i k h l = omega (arith, h, l)

-- its mirror, after a write
mirror-in : (n i k m : ℕ) (v : Float) (w w₀ : List Float) → length w ≡ length w₀ → n * n ≤ length w₀ → i < n → k < i + 1 → k * n + i < length (set w m v)
mirror-in n i k m v w w₀ e h l q = rw (length-set, e) (cell_in n n k i w₀ (left n i k q l) l h)

one-spread : (rows i k t : ℕ) (h w : List Float) → t ≡ triangle i → set (set w (i * rows + k) (get_or h (t + k) nan)) (k * rows + i) (get_or h (t + k) nan) ≡ spread_one rows h i k w
unfolding spread_one set_both
one-spread rows i k t h w e = rw e

pub loop-k-init : goal.loop-k-init
unfolding spread_row
loop-k-init c = (search rules, refl, search rules, refl, refl)

pub overflow_add-v : goal.overflow_add-v
overflow_add-v c = search (halves, rules)

pub offset_bounds-self-t : goal.offset_bounds-self-t
offset_bounds-self-t c = search (halves, rules)

pub bounds-self-t : goal.bounds-self-t
bounds-self-t c = search (halves, rules)

pub overflow_mul-w : goal.overflow_mul-w
overflow_mul-w c = search (left, cells, rules)

pub overflow_add-w : goal.overflow_add-w
overflow_add-w c = search (left, cells, rules)

pub offset_bounds-w-i : goal.offset_bounds-w-i
offset_bounds-w-i c = search (left, cells, rules)

pub bounds-w-i : goal.bounds-w-i
bounds-w-i c = search (left, cells, rules)

pub overflow_mul-w-in-loop-k : goal.overflow_mul-w-in-loop-k
overflow_mul-w-in-loop-k c = search (left, cells, rules)

pub overflow_add-w-in-loop-k : goal.overflow_add-w-in-loop-k
overflow_add-w-in-loop-k c = search (left, cells, rules)

pub offset_bounds-w-k : goal.offset_bounds-w-k
offset_bounds-w-k c = search (left, cells, rules)

pub bounds-w-k : goal.bounds-w-k
bounds-w-k c = search (mirror-in, rules)

pub loop-k-preserved : goal.loop-k-preserved
loop-k-preserved c = (search rules, search rules, search rules, search rules, search (up_to-next, one-spread, rules))

pub returns : goal.returns
returns c = search (up_to-done, rules)
