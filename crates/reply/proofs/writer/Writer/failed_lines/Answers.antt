-- A place that is marked has its line, and another none. Assumes nothing.
use Prim.Native.Nat.{ℕ, ◌+◌}
use mathlib.Core.Bool.{Bool, true, false}
use mathlib.Core.List.{List}
use mathlib.Core.Path.{◌≡◌, ◌∙◌}
use lib.ListN.{get_or}
use Rattle.reply.specs.Laid.{laying}
use Rattle.reply.specs.Lines.{suspect_line}
use Rattle.reply.specs.Reply.{rising}
use Rattle.reply.specs.Theorems.{c_line}
use Rattle.reply.specs.declared.writer.Writer.{Writer}
use Rattle.reply.proofs.Laws.{rising_next}
use Rattle.reply.proofs.writer.Writer.failed_lines.Goals.{then-marked, else-marked}
use Rattle.reply.proofs.writer.Writer.failed_lines.Goals as goal

module _ (suspects : List Bool) (k : ℕ) (s t u : Writer) (so-far : t ≡ laying (rising (suspect_line suspects) k) s) where
  marked : get_or suspects k false ≡ true → u ≡ laying (c_line k) t → u ≡ laying (rising (suspect_line suspects) (k + 1)) s
  unfolding suspect_line
  marked e f = rw rising_next (rw (e, ← so-far) f)

  unmarked : get_or suspects k false ≡ false → u ≡ t → u ≡ laying (rising (suspect_line suspects) (k + 1)) s
  unfolding suspect_line
  unmarked e f = rw rising_next (rw (e, ← so-far) f)

pub loop-k-preserved : goal.loop-k-preserved
loop-k-preserved c = elim c.if-marked.branch [
  | then-marked w ↦ marked _ _ _ _ _ c.loop-k.invariant w.if-marked.true (w.self-is ∙ w.suspect_line.ensures)
  | else-marked w ↦ unmarked _ _ _ _ _ c.loop-k.invariant w.if-marked.false w.self-is
]
