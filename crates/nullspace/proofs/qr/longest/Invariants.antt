use Prim.Native.Nat.{◌≤◌}
use mathlib.Core.Path.{◌≡◌}
use Rattle.loops.specs.Turns.{up_to}
use Rattle.nullspace.specs.Layout.{Measured, longer_row, longest_of}
use Rattle.nullspace.proofs.qr.longest.Given as goal

abbrev pub invariant-loop-j : goal.invariant-loop-j
invariant-loop-j l = (l.j ≤ l.m) × Measured l.n l.m l.k l.t l.best × (up_to l.m l.j (longer_row l.n l.k l.t) l.best.row ≡ longest_of l.n l.m l.k l.t)
