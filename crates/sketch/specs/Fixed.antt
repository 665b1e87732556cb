-- A point that is kept where it was drawn, or placed, is fixed.
use Rattle.std.specs.Prelude.{Bool, true, false}
use Rattle.sketch.specs.declared.State.{State}

abbrev pub is_fixed : State → Bool
is_fixed State.Free = false
is_fixed State.Kept = true
is_fixed (State.Placed at) = true
