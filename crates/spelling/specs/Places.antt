-- Places in a text, as a reader goes from one to the next. A place is the index of the next byte; a reading gives what it read and the
-- place after it, or the place at which the text is not as it should be.
use Rattle.std.specs.Prelude.{List, [], ◌∷◌, ℕ, ◌+◌, eqb, Result, Ok, Err, ok_or, slice_get, if◌then◌else◌}

-- what a reading gives: a value and the place after it, or the place at which it failed
abbrev pub Read : Type 0 → Type 0
Read A = Result (A × ℕ) ℕ

-- one step after another, as `?` has it
infixl 10 ◌>>=◌
abbrev pub ◌>>=◌ : {A B E : Type 0} → Result A E → (A → Result B E) → Result B E
Ok a >>= f = f a
Err e >>= f = Err e

-- the one with what was read, or the other with the place at which the reading failed, as `match` has it
abbrev pub if_ok : {A B E : Type 0} → Result A E → (A → B) → (E → B) → B
if_ok (Ok a) f other = f a
if_ok (Err e) f other = other e

-- the byte that stands there
abbrev pub byte_at : List ℕ → ℕ → Result ℕ ℕ
byte_at s at = ok_or (slice_get s at) at

-- past the byte b, which has to stand there
unfoldable pub eat_of : List ℕ → ℕ → ℕ → Result ℕ ℕ
eat_of s at b = do
  x ← byte_at s at
  if eqb x b then Ok (at + 1) else Err at

-- past the word w
unfoldable pub word_of : List ℕ → ℕ → List ℕ → Result ℕ ℕ
word_of s at [] = Ok at
word_of s at (b ∷ w) = do
  next ← eat_of s at b
  word_of s next w

-- the first of several that has its name there, and the place after it; where none has, the place at which the last one's name fails
unfoldable pub named_or : {K : Type 0} → (K → List ℕ) → List ℕ → ℕ → ℕ → List K → Read K
named_or name s at failed [] = Err failed
named_or name s at failed (k ∷ l) = if_ok (word_of s at (name k)) (λ n. Ok (k, n)) (λ e. named_or name s at e l)

abbrev pub named : {K : Type 0} → (K → List ℕ) → List ℕ → ℕ → List K → Read K
named name s at l = named_or name s at at l
