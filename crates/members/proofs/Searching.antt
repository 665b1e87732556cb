-- A search in a list that rises (specs/Searched.antt): what it finds, and that a table which is filled from the list and searching the list
-- with the table's default for a failure are the same (`searched`). Assumes nothing.
use Prim.Native.Nat.{ℕ, zero, suc, ◌+◌, ◌-◌, ◌≤◌, ◌<◌}
use mathlib.Core.Bool.{cond}
use mathlib.Core.List.Memᴰ
use mathlib.Core.List.{List, [], ◌∷◌, Memᴰ}
use mathlib.Core.Logic.{◌↔◌, ◌⊎◌, inl, inr}
use mathlib.Core.Path.{◌≡◌, refl, sym, ap, ◌∙◌}
use native.Mathlib.Decide.{ℕ_discrete, dec_lt}
use native.Mathlib.Nat.{not-suc-le-zero, le_of_suc-le-suc}
use native.Mathlib.Omega.{arith}
use borrow.Author.Tests.{eq-eqb, ne_eqb}
use lib.Dec.{eqb}
use lib.ListN.{length, get_or, drop, set, replicate, length-set, length-replicate, get_or-replicate, get_or-eq_default}
use lib.Seq.{get_or-drop, drop-drop, get_or-set_same, get_or-set_other}
use Rattle.loops.specs.Turns.{turns, up_to}
use Rattle.groups.specs.Chains.{Rises}
use Rattle.members.specs.Tables.{number_at, numbered_of, table_of}
use Rattle.members.specs.Searched.{stands_from}

-- each number of the list is below n
abbrev pub Within : ℕ → List ℕ → Type 0
Within n cs = (c : ℕ) → Memᴰ c cs → c < n

pub stands-not : (k d : ℕ) (l : List ℕ) (v : ℕ) → (Memᴰ v l → ⊥) → stands_from k d l v ≡ d
unfolding stands_from
stands-not k d [] v n = refl
stands-not k d (x ∷ l) v n = rw (ne_eqb x v (λ e. n (Memᴰ.head (sym e)))) (stands-not (k + 1) d l v (λ m. n (Memᴰ.tail m)))

nothing_left : (k d v : ℕ) → d ≡ stands_from k d [] v
unfolding stands_from
nothing_left k d v = refl

-- what stands at a place is among the list
at_place : (l : List ℕ) (i : ℕ) → i < length l → Memᴰ (get_or l i 0) l
at_place [] i h = absurd (not-suc-le-zero h)
at_place (x ∷ l) zero h = Memᴰ.head refl
at_place (x ∷ l) (suc i) h = Memᴰ.tail (at_place l i (le_of_suc-le-suc h))

pub stands_at : (k d : ℕ) (l : List ℕ) (i : ℕ) → Rises l → i < length l → stands_from k d l (get_or l i 0) ≡ k + i
unfolding stands_from
stands_at k d [] i r h = absurd (not-suc-le-zero h)
stands_at k d (x ∷ l) zero r h = rw (eq-eqb x x refl) (omega arith)
stands_at k d (x ∷ l) (suc i) r h =
    let m : i < length l = le_of_suc-le-suc h in
    let less : x < get_or l i 0 = r.0 (get_or l i 0) (at_place l i m) in
    let n : k + 1 + i ≡ k + suc i = omega arith in
    rw (ne_eqb x (get_or l i 0) (λ e. omega arith)) (stands_at (k + 1) d l i r.1 m ∙ n)

-- where the failure's number is past the list, a number stands in the list exactly when the search answers a place of it
found-in : (k d : ℕ) (l : List ℕ) (v : ℕ) → Memᴰ v l → stands_from k d l v < k + length l
unfolding stands_from
found-in k d [] v m = absurd (Memᴰ.not-nil m)
found-in k d (x ∷ l) v m = go (ℕ_discrete x v) (Memᴰ.cases_cons m) (λ n. found-in (k + 1) d l v n)
  where
    go : Dec (x ≡ v) → (v ≡ x) ⊎ Memᴰ v l → (Memᴰ v l → stands_from (k + 1) d l v < k + 1 + length l)
        → cond (eqb x v) k (stands_from (k + 1) d l v) < k + suc (length l)
    go (yes e) m f = rw (eq-eqb x v e) (omega arith)
    go (no n) (inl e) f = absurd (n (sym e))
    go (no n) (inr m) f = rw (ne_eqb x v n) (omega (arith, f m))

in-found : (k d : ℕ) (l : List ℕ) (v : ℕ) → k + length l ≤ d → stands_from k d l v < k + length l → Memᴰ v l
unfolding stands_from
in-found k d [] v h s = absurd (omega arith)
in-found k d (x ∷ l) v h s = go (ℕ_discrete x v) s (λ t. in-found (k + 1) d l v (omega arith) t)
  where
    go : Dec (x ≡ v) → cond (eqb x v) k (stands_from (k + 1) d l v) < k + suc (length l) → (stands_from (k + 1) d l v < k + 1 + length l → Memᴰ v l)
        → Memᴰ v (x ∷ l)
    go (yes e) s f = Memᴰ.head (sym e)
    go (no n) s f = Memᴰ.tail (f (let t : stands_from (k + 1) d l v < k + suc (length l) = rw (ne_eqb x v n) at s in omega arith))

pub stands-exactly : (d : ℕ) (l : List ℕ) (v : ℕ) → length l ≤ d → stands_from 0 d l v < length l ↔ Memᴰ v l
stands-exactly d l v h =
    let z : 0 + length l ≡ length l = omega arith in
    (λ s. in-found 0 d l v (omega arith) (omega arith), λ m. rw z at (found-in 0 d l v m))

-- one number more in the table is one place more in the list
numbered : (d v c : ℕ) (l : List ℕ) (k : ℕ) (t : List ℕ) → c < length t → (Memᴰ v l → c < v)
    → stands_from (k + 1) (get_or (set t c k) v d) l v ≡ stands_from k (get_or t v d) (c ∷ l) v
unfolding stands_from
numbered d v c l k t h r = go (ℕ_discrete v c)
  where
    go : Dec (v ≡ c) → stands_from (k + 1) (get_or (set t c k) v d) l v ≡ cond (eqb c v) k (stands_from (k + 1) (get_or t v d) l v)
    go (yes e) =
        let set_here : get_or (set t c k) v d ≡ k = rw e (get_or-set_same t c k d h) in
        rw (eq-eqb c v (sym e), set_here) (stands-not (k + 1) k l v (λ m. omega (arith, r m)))
    go (no n) = rw (ne_eqb c v (λ e. n (sym e)), get_or-set_other t c v k d n)

module _ (cs : List ℕ) (d v : ℕ) where
  -- from the place k on, where what is left of the list is l
  told : (l : List ℕ) (k : ℕ) (t : List ℕ) → drop k cs ≡ l → Rises l → Within (length t) l
      → get_or (turns (length l) k (number_at cs) t) v d ≡ stands_from k (get_or t v d) l v
  unfolding turns number_at
  told [] k t e r w = nothing_left k (get_or t v d) v
  told (c ∷ l) k t e r w =
      let same : k ≡ k + 0 = omega arith in
      let here : get_or cs k 0 ≡ c = ap (λ i. get_or cs i 0) same ∙ sym (get_or-drop k cs 0 0) ∙ ap (λ m. get_or m 0 0) e in
      let rest : drop (k + 1) cs ≡ l = sym (drop-drop 1 k cs) ∙ ap (drop 1) e in
      ap (λ x. get_or (turns (length l) (k + 1) (number_at cs) (set t x k)) v d) here
      ∙ told l (k + 1) (set t c k) rest r.1 (λ x m. rw (length-set t c k) (w x (Memᴰ.tail m)))
      ∙ numbered d v c l k t (w c (Memᴰ.head refl)) (r.0 v)

-- a table of n places over a list that rises within it
module _ (n d : ℕ) (cs : List ℕ) (rise : Rises cs) (within : Within n cs) where
  blank : (v : ℕ) → get_or (replicate n d) v d ≡ d
  blank v = go (dec_lt v n)
    where
      go : Dec (v < n) → get_or (replicate n d) v d ≡ d
      go (yes h) = get_or-replicate n v d d h
      go (no h) = get_or-eq_default (replicate n d) d {n = v} (rw (length-replicate n d) (omega arith))

  -- the table is the search, with the table's default where it fails, for every number, also past the table's end
  pub searched : (v : ℕ) → get_or (table_of n d cs) v d ≡ stands_from 0 d cs v
  unfolding numbered_of up_to
  searched v =
      let all : length cs - 0 ≡ length cs = omega arith in
      ap (λ m. get_or (turns m 0 (number_at cs) (replicate n d)) v d) all
      ∙ told cs d v cs 0 (replicate n d) refl rise (λ c m. rw (length-replicate n d) (within c m))
      ∙ ap (λ e. stands_from 0 e cs v) (blank v)

  pub found : (k : ℕ) → k < length cs → get_or (table_of n d cs) (get_or cs k 0) d ≡ k
  found k h = searched (get_or cs k 0) ∙ stands_at 0 d cs k rise h ∙ omega arith

  pub missing : (v : ℕ) → (Memᴰ v cs → ⊥) → get_or (table_of n d cs) v d ≡ d
  missing v m = searched v ∙ stands-not 0 d cs v m
