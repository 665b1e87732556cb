use mathlib.Core.Path.{◌≡◌}
use lib.ListN.{drop}
use Rattle.loops.specs.Turns.{fold}
use Rattle.level.specs.Level.{join_equation, joined}
use Rattle.level.proofs.sweeps.Axis.join_equations.Given as goal

abbrev pub invariant-loop-a : goal.invariant-loop-a
invariant-loop-a l =
    fold (join_equation l.self.number l.self.fixed) l.parents (drop l.a-index l.equations)
    ≡ joined l.self.number l.self.fixed l.equations l.initial.parents
