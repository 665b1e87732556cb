-- solver.rs, `norm2`: a `sum()`, so it starts from −0.0.
use Rattle.std.specs.Prelude.{List, Float}
use Rattle.floats.specs.Ops.{◌⊕◌, ◌⊗◌, zero⁻}
use Rattle.loops.specs.Turns.{fold}

unfoldable pub add_square : Float → Float → Float
add_square s a = s ⊕ a ⊗ a

unfoldable pub norm2_of : List Float → Float
norm2_of v = fold add_square zero⁻ v
