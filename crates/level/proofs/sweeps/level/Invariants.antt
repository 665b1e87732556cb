use Prim.Native.Nat.{min}
use mathlib.Core.Path.{◌≡◌}
use Rattle.loops.specs.Turns.{up_to}
use Rattle.sketch.specs.Parts.{equations_of}
use Rattle.level.specs.Fixed.{fixed_of}
use Rattle.level.specs.Level.{level_axis, level_of}
use Rattle.level.proofs.sweeps.level.Given as goal

abbrev pub invariant-loop-number : goal.invariant-loop-number
invariant-loop-number l =
    up_to 2 l.number (level_axis (fixed_of l.b.points) (equations_of l.b) (min l.b.point_count 40)) l.points ≡ level_of l.b l.initial.points
