use Prim.Native.Nat.{◌≤◌}
use mathlib.Core.Path.{◌≡◌}
use lib.ListN.{length}
use Rattle.loops.specs.Turns.{up_to}
use Rattle.nullspace.specs.Layout.{swap_head}
use Rattle.nullspace.proofs.qr.swap_head.Given as goal

abbrev pub invariant-loop-c : goal.invariant-loop-c
invariant-loop-c l = (l.c ≤ l.n) × (length l.t ≡ length l.initial.t) × (up_to l.n l.c (swap_head l.n l.p) l.t ≡ up_to l.n 0 (swap_head l.n l.p) l.initial.t)
