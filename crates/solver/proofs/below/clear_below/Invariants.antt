use Prim.Native.Nat.{◌≤◌, ◌<◌}
use mathlib.Core.Path.{◌≡◌}
use lib.ListN.{length}
use Rattle.loops.specs.Turns.{up_to}
use Rattle.solver.specs.Steps.{sys, row_of, below_of}
use Rattle.solver.proofs.below.clear_below.Given as goal

abbrev pub invariant-loop-r : goal.invariant-loop-r
invariant-loop-r l = ((l.col < l.r) × (l.r ≤ l.n)) × ((length l.a ≡ length l.initial.a) × (length l.b ≡ length l.initial.b)) × (up_to l.n l.r (row_of l.n l.col l.p) (sys l.a l.b) ≡ below_of l.n l.col (sys l.initial.a l.initial.b))
