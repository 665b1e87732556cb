-- Where a record of a pack lies (data/README.md): a line `LENGTH REPLYLENGTH`, so many bytes of text, so many bytes of reply.
use Rattle.std.specs.Prelude.{List, ℕ, ◌+◌, ◌-◌, ◌≤◌, leb, length, take, drop, Option, Some, None, Result, ok_or, if◌then◌else◌}
use Rattle.spelling.specs.Places.{◌>>=◌, eat_of}
use Rattle.spelling.specs.Wholes.{whole_at}
use Rattle.replay.specs.declared.records.Record.{Record}

-- the bytes from a up to e
abbrev pub part : List ℕ → ℕ → ℕ → List ℕ
part s a e = take (e - a) (drop a s)

-- a record's parts follow each other within a pack
pub record Within (r : Record) (len : ℕ) : Type 0 where
  pub text-first : r.text ≤ r.reply
  pub reply-next : r.reply ≤ r.end
  pub all_there : r.end ≤ len

-- the record whose bytes start at a place, where there are so many
unfoldable pub placed : ℕ → ℕ → ℕ → ℕ → Option Record
placed len at n m = if leb (at + n + m) len then Some (record { text = at; reply = at + n; end = at + n + m }) else None

-- the record that starts there, or the place at which there is none
unfoldable pub record_at : List ℕ → ℕ → Result Record ℕ
record_at s at = do
  n ← whole_at s at
  space ← eat_of s n.1 32
  m ← whole_at s space
  text ← eat_of s m.1 10
  ok_or (placed (length s) text n.0 m.0) text
