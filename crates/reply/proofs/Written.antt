-- What laying all the bytes from the start comes to. Assumes nothing.
use Prim.Native.Nat.{ℕ, ◌+◌, ◌≤◌, ◌<◌}
use mathlib.Core.Bool.{Bool, true, false, cond}
use mathlib.Core.List.{List, [], ◌∷◌, ◌++◌, append-nil, append_assoc}
use mathlib.Core.Path.{◌≡◌, refl, sym, ap, ◌∙◌}
use native.Mathlib.Nat.{add-zero, not-suc-le-zero, le_of_suc-le-suc}
use native.Mathlib.Omega.{arith}
use borrow.Author.Tests.{lt-ltb, le-leb, lt-leb}
use lib.Dec.{ltb}
use lib.ListN.{length, length-append, set, drop, take}
use lib.Seq.{take_at}
use Rattle.loops.specs.Turns.{fold}
use Rattle.loops.proofs.Parts.{set_past}
use Rattle.reply.specs.Laid.{next_byte, laying}
use Rattle.reply.specs.Promise.{written_of}
use Rattle.reply.specs.declared.writer.Writer.{Writer}

-- with room in the count
abbrev after : Writer → ℕ → Writer
after w b = record w { reply = record w.reply { now = set w.reply.now w.at b }; at = w.at + 1 }

after-is : (b : ℕ) (w : Writer) → w.at < 8192 → next_byte w b ≡ after w b
unfolding next_byte
after-is b w h = rw (lt-ltb w.at 8192 h)

-- the writer keeps its slice
one-name : (b : ℕ) (w : Writer) → (next_byte w b).reply.ghost_name ≡ w.reply.ghost_name
unfolding next_byte
one-name b w = by (ltb w.at 8192)
  where
    by : (t : Bool) → (cond t (after w b) w).reply.ghost_name ≡ w.reply.ghost_name
    by true = refl
    by false = refl

pub same_name : (bs : List ℕ) (w : Writer) → (fold next_byte w bs).reply.ghost_name ≡ w.reply.ghost_name
same_name [] w = refl
same_name (b ∷ bs) w = same_name bs (next_byte w b) ∙ one-name b w

counted : (bs : List ℕ) (w : Writer) → w.at + length bs ≤ 8192 → (laying bs w).at ≡ w.at + length bs
counted [] w h = sym (add-zero w.at)
counted (b ∷ bs) w h = ap (λ v. (laying bs v).at) (after-is b w (omega arith)) ∙ counted bs (after w b) (omega arith) ∙ omega arith

-- the bytes behind a front p that is laid
filled : (bs p t : List ℕ) (w : Writer) → w.at ≡ length p → w.reply.now ≡ p ++ t → length p + length bs ≤ 8192 → length bs ≤ length t
    → (laying bs w).reply.now ≡ (p ++ bs) ++ drop (length bs) t
filled [] p t w a e h k = e ∙ rw append-nil
filled (b ∷ bs) p [] w a e h k = absurd (not-suc-le-zero k)
filled (b ∷ bs) p (x ∷ t) w a e h k =
    let one : length (p ++ b ∷ []) ≡ length p + 1 = length-append p (b ∷ []) in
    let put : set w.reply.now w.at b ≡ (p ++ b ∷ []) ++ t =
    rw (a, e) (rw add-zero at (set_past p (x ∷ t) (length p) 0 b refl) ∙ sym (append_assoc p (b ∷ []) t)) in
    ap (λ v. (laying bs v).reply.now) (after-is b w (omega arith))
    ∙ (filled bs (p ++ b ∷ []) t (after w b) (omega arith) put (omega arith) (le_of_suc-le-suc k) ∙ rw (append_assoc p (b ∷ []) bs))

module _ (bs : List ℕ) (w : Writer) (start : w.at ≡ 0) (few : length bs ≤ 8192) where
  pub length-counted : (laying bs w).at ≡ length bs
  length-counted = counted bs w (omega arith) ∙ omega arith

  pub room : length bs ≤ length w.reply.now → (laying bs w).reply.now ≡ written_of bs w.reply.now
  unfolding written_of
  room k = rw (le-leb (length bs) (length w.reply.now) k) (filled bs [] w.reply.now w start refl (omega arith) k)

pub no-room : (bs : List ℕ) (n : ℕ) (s : List ℕ) → n ≡ length bs → length s < n → s ≡ written_of bs s
unfolding written_of
no-room bs n s e h = rw (lt-leb (length bs) (length s) (omega arith))

-- where it has room it starts with them
pub written-first : (bs s : List ℕ) (n : ℕ) → n ≡ length bs → n ≤ length s → take n (written_of bs s) ≡ bs
unfolding written_of
written-first bs s n e h = rw (le-leb (length bs) (length s) (omega arith)) (take_at bs (drop (length bs) s) n (sym e))
