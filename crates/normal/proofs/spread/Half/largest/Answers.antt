-- Assumes nothing.
use Prim.Native.Nat.{ℕ, ◌+◌}
use mathlib.Core.List.{List}
use mathlib.Core.Path.{◌≡◌, refl}
use native.Mathlib.Numerals.{lt-add-one}
use borrow.Author.Rules.{rules}
use lib.Ieee.{Float, nan}
use lib.ListN.{get_or}
use Rattle.floats.specs.Magnitude.{max_of}
use Rattle.loops.proofs.Turning.{up_to-next, up_to-done}
use Rattle.normal.specs.Half.{triangle, max_in_half, half_largest_of}
use Rattle.normal.proofs.Halves.{halves}
use Rattle.normal.proofs.spread.Half.largest.Goals as goal

one-more : (i t : ℕ) (h : List Float) (m n : Float) → t ≡ triangle i → n ≡ max_of m (get_or h (t + i) nan) → n ≡ max_in_half h i m
unfolding max_in_half
one-more i t h m n e f = rw (f, e)

pub loop-i-init : goal.loop-i-init
unfolding half_largest_of
loop-i-init c = (search rules, refl)

pub overflow_add-triangle : goal.overflow_add-triangle
overflow_add-triangle c = search (halves, lt-add-one, rules)

pub offset_bounds-self-triangle : goal.offset_bounds-self-triangle
offset_bounds-self-triangle c = search (halves, lt-add-one, rules)

pub bounds-self-triangle : goal.bounds-self-triangle
bounds-self-triangle c = search (halves, lt-add-one, rules)

pub loop-i-preserved : goal.loop-i-preserved
loop-i-preserved c = (search rules, search (up_to-next, one-more, rules))

pub returns : goal.returns
returns c = search (up_to-done, rules)
