-- The lines so far are laid.
use Prim.Native.Nat.{◌+◌, ◌*◌}
use mathlib.Core.Path.{◌≡◌}
use Rattle.reply.specs.Laid.{laying}
use Rattle.reply.specs.Lines.{point_line, measure_line}
use Rattle.reply.specs.Reply.{rising}
use Rattle.reply.proofs.writer.Writer.output_lines.Given as goal

abbrev pub invariant-loop-i : goal.invariant-loop-i
invariant-loop-i l = l.self ≡ laying (rising (point_line l.o.out.now) l.i) l.initial.self

abbrev pub invariant-loop-j : goal.invariant-loop-j
invariant-loop-j l = l.self ≡ laying (rising (λ j. measure_line l.o.out.now (2 * l.points + j)) l.j) l.initial.self
