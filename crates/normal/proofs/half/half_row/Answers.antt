-- Assumes nothing.
use Prim.Native.Nat.{ℕ, ◌+◌}
use mathlib.Core.List.{List}
use mathlib.Core.Path.{◌≡◌, refl}
use borrow.Author.Rules.{rules}
use lib.Ieee.{Float}
use lib.ListN.{set}
use Rattle.loops.proofs.Turning.{up_to-next, up_to-done}
use Rattle.normal.specs.Half.{triangle}
use Rattle.normal.specs.Inside.{put_one, put_row}
use Rattle.normal.specs.Normal.{rows_product}
use Rattle.normal.proofs.Halves.{halves}
use Rattle.normal.proofs.half.half_row.Goals as goal

one-put : (nf i k t : ℕ) (j h : List Float) (v : Float) → t ≡ triangle i → v ≡ rows_product nf j k i → set h (t + k) v ≡ put_one nf j i k h
unfolding put_one
one-put nf i k t j h v e f = rw (e, f)

pub loop-k-init : goal.loop-k-init
unfolding put_row
loop-k-init c = (search rules, refl, search rules, refl, refl)

pub overflow_add-h : goal.overflow_add-h
overflow_add-h c = search (halves, rules)

pub offset_bounds-h-t : goal.offset_bounds-h-t
offset_bounds-h-t c = search (halves, rules)

pub bounds-h-t : goal.bounds-h-t
bounds-h-t c = search (halves, rules)

pub loop-k-preserved : goal.loop-k-preserved
loop-k-preserved c = (search rules, search rules, search rules, search rules, search (up_to-next, one-put, rules))

pub returns : goal.returns
returns c = search (up_to-done, rules)
