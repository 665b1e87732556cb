use mathlib.Core.Path.{◌≡◌}
use lib.ListN.{length}
use Rattle.loops.specs.Turns.{up_to}
use Rattle.nullspace.specs.Layout.{reflect_at, reflected_by}
use Rattle.nullspace.proofs.reflect.reflect_rows.Given as goal

abbrev pub invariant-loop-j : goal.invariant-loop-j
invariant-loop-j l = (length l.t ≡ length l.initial.t) × (up_to l.m l.j (reflect_at l.n l.vv) l.t ≡ reflected_by l.n l.m l.vv l.initial.t)
