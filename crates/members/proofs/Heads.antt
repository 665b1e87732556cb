-- Numbers pushed one after another to the head of an array of n places: what is there so far, with what is left to come, is the
-- whole. Assumes nothing.
use Prim.Native.Nat.{ℕ, suc, ◌+◌, ◌-◌, ◌≤◌, ◌<◌}
use mathlib.Core.List.{List, [], ◌∷◌, ◌++◌, append-nil, append_assoc}
use mathlib.Core.Path.{◌≡◌, sym, ap, ◌∙◌}
use native.Mathlib.Omega.{arith}
use lib.ListN.{length, set, length-append}
use lib.Seq.{set-append_seam}
use Rattle.members.specs.Lists.{headed, Lists, pushed_of}
use Rattle.members.specs.declared.Listed.{Listed}

pub record Heads (n : ℕ) (items : List ℕ) (count : ℕ) (rest whole : List ℕ) : Type 0 where
  pub front : List ℕ
  pub stands : items ≡ headed n front
  pub counted : count ≡ length front
  pub adds : front ++ rest ≡ whole

longer : (l : List ℕ) (v : ℕ) → length (l ++ v ∷ []) ≡ length l + 1
longer l v = simp length-append

headed-next : (n : ℕ) (l : List ℕ) (v : ℕ) → length l < n → set (headed n l) (length l) v ≡ headed n (l ++ v ∷ [])
headed-next n l v h =
    let e : n - length l ≡ suc (n - length (l ++ v ∷ [])) = omega (arith, longer l v) in
    rw (e, set-append_seam, append_assoc)

heads-push : (n : ℕ) (items : List ℕ) (count v : ℕ) (rest whole : List ℕ) → count < n → Heads n items count (v ∷ rest) whole → Heads n (set items count v) (count + 1) rest whole
heads-push n items count v rest whole h t = record {
  front = t.front ++ v ∷ [];
  stands = rw (t.stands, t.counted) (headed-next n t.front v (rw t.counted at h));
  counted = omega (arith, t.counted, longer t.front v);
  adds = append_assoc t.front (v ∷ []) rest ∙ t.adds;
}

module _ (n : ℕ) (items : List ℕ) (count : ℕ) (whole : List ℕ) (t : Heads n items count [] whole) where
  all : t.front ≡ whole
  all = sym (append-nil t.front) ∙ t.adds

  heads-items : items ≡ headed n whole
  heads-items = t.stands ∙ ap (headed n) all

  heads-count : count ≡ length whole
  heads-count = t.counted ∙ ap length all

-- the numbers of a `Listed`
module _ {n : ℕ} where
  abbrev pub Pushed : Listed n → List ℕ → List ℕ → Type 0
  Pushed r rest whole = Heads n r.items r.count rest whole

  pub pushed-next : (v : ℕ) (r r' : Listed n) (rest whole : List ℕ) → r.count < n → r' ≡ pushed_of v r → Pushed r (v ∷ rest) whole
      → Pushed r' rest whole
  pushed-next v r r' rest whole h e t = rw e (heads-push n r.items r.count v rest whole h t)

  listed-is : (r : Listed n) (items : List ℕ) (count : ℕ) → r.items ≡ items → r.count ≡ count → r ≡ record { items = items; count = count }
  listed-is r items count e f = rw (← e, ← f)

  pub pushed-done : (r : Listed n) (whole : List ℕ) → r.count ≤ n → Pushed r [] whole → Lists r whole
  pushed-done r whole h t =
      let items = heads-items n r.items r.count whole t in
      let count = heads-count n r.items r.count whole t in
      record { is = listed-is r (headed n whole) (length whole) items count; few = rw count at h }
