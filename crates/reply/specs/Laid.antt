-- Bytes one after another in a lent slice. A byte past the end of the slice does nothing, so that the length of a reply is known
-- from laying it where there is no room.
use Rattle.std.specs.Prelude.{cond, List, ℕ, ◌+◌, ltb, set}
use Rattle.loops.specs.Turns.{fold}
use Rattle.reply.specs.declared.writer.Writer.{Writer}

-- one byte more; past 8,192 there is none, so that the count fits whatever is laid (no reply is that long, `short`)
unfoldable pub next_byte : Writer → ℕ → Writer
next_byte w b =
    cond (ltb w.at 8192)
    (record w { reply = record w.reply { now = set w.reply.now w.at b }; at = w.at + 1 })
    w

abbrev pub laying : List ℕ → Writer → Writer
laying bs w = fold next_byte w bs
