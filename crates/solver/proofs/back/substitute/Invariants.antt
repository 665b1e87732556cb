use Prim.Native.Nat.{ℕ, ◌≤◌}
use mathlib.Core.List.{List, ◌++◌}
use mathlib.Core.Path.{◌≡◌}
use lib.Ieee.{Float}
use lib.ListN.{length, take, drop, replicate}
use Rattle.floats.specs.Ops.{zero⁺}
use Rattle.loops.specs.Turns.{down_to}
use Rattle.solver.specs.Steps.{sys, back_at, back_of}
use Rattle.solver.proofs.back.substitute.Given as goal

-- what the Rust's `y` is when r rows are left: zeros there, and past them the answers, which here lie in b
unfoldable pub so_far : ℕ → List Float → List Float
so_far r b = replicate r zero⁺ ++ drop r b

abbrev pub invariant-loop-r : goal.invariant-loop-r
invariant-loop-r l = (l.r ≤ l.n) × (length l.b ≡ length l.initial.b) × (take l.r l.b ≡ take l.r l.initial.b) × (down_to l.r (back_at l.n l.a l.initial.b) (so_far l.r l.b) ≡ back_of l.n (sys l.a l.initial.b))
