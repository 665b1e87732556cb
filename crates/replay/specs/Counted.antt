-- The records of a pack one after another, and how many of them hold the reply to their text.
use Rattle.std.specs.Prelude.{Bool, cond, List, ℕ, ◌+◌, ltb, length}
use Rattle.loops.specs.Turns.{up_to}
use Rattle.spelling.specs.Places.{if_ok}
use Rattle.replay.specs.Judged.{answered, same_bytes}
use Rattle.replay.specs.Records.{part, record_at}
use Rattle.replay.specs.declared.records.Record.{Record}
use Rattle.replay.specs.declared.tally.Tally.{Tally}

unfoldable pub one_more : ℕ → ℕ
one_more n = cond (ltb n 1_000_000_000) (n + 1) n

unfoldable pub counted_of : Tally → ℕ → Bool → Tally
counted_of t e same =
    cond same
    (record { at = e; same = one_more t.same; differ = t.differ })
    (record { at = e; same = t.same; differ = one_more t.differ })

unfoldable pub judged_of : List ℕ → Record → Tally → Tally
judged_of s r t = counted_of t r.end (same_bytes (answered (part s r.text r.reply)) (part s r.reply r.end))

-- where no record stands, nothing is counted
unfoldable pub turn_of : List ℕ → ℕ → Tally → Tally
turn_of s i t = if_ok (record_at s t.at) (λ r. judged_of s r t) (λ _. t)

abbrev pub tally_of : List ℕ → Tally
tally_of s = up_to (length s) 0 (turn_of s) (record { at = 0; same = 0; differ = 0 })
