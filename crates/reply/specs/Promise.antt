-- What `write` promises.
use Rattle.std.specs.Prelude.{cond, List, ◌++◌, ◌≡◌, ℕ, leb, Float, length, drop}
use Rattle.answer.specs.declared.Answer.{Answer}
use Rattle.floats.specs.Only.{only-answer}
use Rattle.reply.specs.Reply.{reply_of}

-- what is written to a slice: the bytes at its head where it has room for them all, and else nothing
unfoldable pub written_of : List ℕ → List ℕ → List ℕ
written_of bs s = cond (leb (length bs) (length s)) (bs ++ drop (length bs) s) s

-- r is the reply's length, and s' what becomes of the lent slice s
pub record Writes (a : Answer) (out : List Float) (points measures : ℕ) (s s' : List ℕ) (r : ℕ) : Type 0 where
  pub needed : r ≡ length (reply_of a out points measures)
  pub written : s' ≡ written_of (reply_of a out points measures) s

-- no second answer, and no other content of the slice, meets the promise
pub only_one : {a : Answer} {out : List Float} {points measures : ℕ} {s s₁ s₂ : List ℕ} {r₁ r₂ : ℕ} → Writes a out points measures s s₁ r₁ → Writes a out points measures s s₂ r₂ → (r₁ ≡ r₂) × (s₁ ≡ s₂)
only_one p q = (only-answer p.needed q.needed, only-answer p.written q.written)
