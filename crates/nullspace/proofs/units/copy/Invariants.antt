use mathlib.Core.List.{◌++◌, map}
use mathlib.Core.Path.{◌≡◌}
use lib.Ieee.{Float}
use Prim.Native.Nat.{◌≤◌}
use lib.ListN.{length, take, drop}
use Rattle.nullspace.proofs.units.copy.Given as goal

abbrev pub invariant-loop-i : goal.invariant-loop-i
invariant-loop-i l = (l.i-end ≡ length l.row) × (l.i ≤ l.i-end) × (length l.to ≡ length l.initial.to) × (l.to ≡ map (λ (v : Float). v) (take l.i l.row) ++ drop l.i l.initial.to)
