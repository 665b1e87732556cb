use mathlib.Core.Path.{◌≡◌}
use lib.ListN.{length}
use Rattle.loops.specs.Turns.{up_to}
use Rattle.members.specs.Tables.{number_at, numbered_of}
use Rattle.members.proofs.tables.table.Given as goal

abbrev pub invariant-loop-k : goal.invariant-loop-k
invariant-loop-k g l = up_to (length l.c-items) l.k (number_at l.c-items) l.t ≡ numbered_of l.c-items l.initial.t
