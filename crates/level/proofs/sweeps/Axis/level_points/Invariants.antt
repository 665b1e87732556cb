use Prim.Native.Nat.{min}
use mathlib.Core.Path.{◌≡◌}
use Rattle.loops.specs.Turns.{up_to}
use Rattle.level.specs.Level.{level_point, level_points}
use Rattle.level.proofs.sweeps.Axis.level_points.Given as goal

abbrev pub invariant-loop-p : goal.invariant-loop-p
invariant-loop-p l =
    (up_to (min l.n 40) l.p (level_point l.self.number l.self.fixed) (record { parents = l.parents; answer = l.points })).answer
    ≡ level_points l.self.number l.self.fixed (min l.n 40) l.initial.parents l.initial.points
