-- What it is to stand at a place of a text, and what a byte and a word do there.
--     Here s at t                    at is a place of the text s, and t is what is left of s there
--     byte-, eat-, word-forward      where the byte or the word comes next, it is read, and the place after it
--     byte-, eat-, word-backward     where it is read, it came next
--     bound                          a chain of readings that gives something, step by step
-- Assumes nothing.
use Prim.Native.Nat.{ℕ, zero, suc, ◌+◌, ◌-◌, ◌≤◌, ◌<◌}
use mathlib.Core.Bool.{Bool, true, false, cond}
use mathlib.Core.List.{List, [], ◌∷◌, ◌++◌}
use mathlib.Core.Path.{◌≡◌, refl, sym, ap, ap₂, subst, ◌∙◌}
use native.Mathlib.Numerals.{add-one}
use native.Mathlib.Omega.{arith}
use borrow.Author.Tests.{eq-eqb, eqb-true}
use lib.Dec.{T, eqb}
use lib.ListN.{length, drop, length-drop}
use lib.Seq.{drop-cons, drop-nil}
use Rattle.std.proofs.Common.{Option, Some, None, Result, Ok, Err, ok_or, slice_get, if◌then◌else◌}
use Rattle.spelling.specs.Places.{◌>>=◌, byte_at, eat_of, word_of}

pub record Here (s : List ℕ) (at : ℕ) (t : List ℕ) : Type 0 where
  pub within : at ≤ length s
  pub rest : drop at s ≡ t

pub begin : (s : List ℕ) → Here s 0 s
begin s = record { within = omega arith; rest = refl }

-- no test has both answers
pub never : (b : Bool) → b ≡ false → b ≡ true → ⊥
never b p q = subst T (sym q ∙ p) tt

pub some-is : {A : Type 0} {x y : A} → Some x ≡ Some y → x ≡ y
some-is h = cc

pub not-both : {A : Type 0} {x : A} → None ≡ Some x → ⊥
not-both h = cc

pub ok-is : {A E : Type 0} {x y : A} → ◌≡◌ {A = Result A E} (Ok x) (Ok y) → x ≡ y
ok-is h = cc

pub not-ok : {A E : Type 0} {e : E} {x : A} → ◌≡◌ {A = Result A E} (Err e) (Ok x) → ⊥
not-ok h = cc

pub was-some : {A E : Type 0} (o : Option A) (e : E) (x : A) → ok_or o e ≡ Ok x → o ≡ Some x
was-some None e x h = absurd (not-ok h)
was-some (Some a) e x h = ap Some (ok-is h)

pub bound : {A B E : Type 0} (o : Result A E) (f : A → Result B E) (b : B) → (o >>= f) ≡ Ok b → (a : A) × (o ≡ Ok a) × (f a ≡ Ok b)
bound (Ok a) f b h = (a, refl, h)
bound (Err e) f b h = absurd (not-ok h)

first-of : (s : List ℕ) (at : ℕ) → slice_get s at ≡ slice_get (drop at s) 0
first-of [] at = ap (λ (l : List ℕ). slice_get l 0) (sym (drop-nil at))
first-of (x ∷ s) zero = refl
first-of (x ∷ s) (suc at) = first-of s at

module _ (s : List ℕ) (at : ℕ) where
  there-more : (x : ℕ) (t : List ℕ) → Here s at (x ∷ t) → at < length s
  there-more x t h =
      let e : length s - at ≡ suc (length t) = sym (length-drop at s) ∙ ap length h.rest in
      omega arith

  pub byte-forward : (x : ℕ) (t : List ℕ) → Here s at (x ∷ t) → (slice_get s at ≡ Some x) × Here s (at + 1) t
  byte-forward x t h =
      let l : at < length s = there-more x t h in
      let e = sym (drop-cons s at 0 l) ∙ h.rest in
      (first-of s at ∙ ap (λ l. slice_get l 0) h.rest, record { within = omega arith; rest = rw add-one (cc) })

  pub byte-backward : (x : ℕ) (t : List ℕ) → Here s at t → slice_get s at ≡ Some x → (u : List ℕ) × (t ≡ x ∷ u) × Here s (at + 1) u
  byte-backward x [] h k = absurd (not-both (sym (first-of s at ∙ ap (λ l. slice_get l 0) h.rest) ∙ k))
  byte-backward x (y ∷ u) h k =
      let f = byte-forward y u h in
      (u, ap (λ z. z ∷ u) (some-is (sym f.0 ∙ k)), f.1)

  -- nothing stands at the end
  pub byte-end : Here s at [] → slice_get s at ≡ None
  byte-end h = first-of s at ∙ ap (λ l. slice_get l 0) h.rest

  module _ (b : ℕ) where
    pub eat-forward : (t : List ℕ) → Here s at (b ∷ t) → (eat_of s at b ≡ Ok (at + 1)) × Here s (at + 1) t
    unfolding eat_of
    eat-forward t h = let f = byte-forward b t h in (rw (f.0, eq-eqb b b refl), f.1)

    eaten : (x n : ℕ) → (if eqb x b then Ok (at + 1) else Err at) ≡ Ok n → (x ≡ b) × (at + 1 ≡ n)
    eaten x n = go (eqb x b) refl
      where
        go : (q : Bool) → eqb x b ≡ q → (if q then Ok (at + 1) else Err at) ≡ Ok n → (x ≡ b) × (at + 1 ≡ n)
        go true e k = (eqb-true x b e, ok-is k)
        go false e k = absurd (not-ok k)

    pub eat-backward : (n : ℕ) (t : List ℕ) → Here s at t → eat_of s at b ≡ Ok n → (u : List ℕ) × (t ≡ b ∷ u) × Here s n u
    unfolding eat_of
    eat-backward n t h k =
        let f = bound (byte_at s at) _ _ k in
        let g = eaten f.0 n f.2 in
        let r = byte-backward f.0 t h (was-some (slice_get s at) at f.0 f.1) in
        (r.0, r.1 ∙ ap (λ y. y ∷ r.0) g.0, subst (λ (m : ℕ). Here s m r.0) g.1 r.2)

-- Words: past one, the bytes of which have to stand there.
module _ (s : List ℕ) where
  pub word-forward : (w : List ℕ) (at : ℕ) (t : List ℕ) → Here s at (w ++ t) → (n : ℕ) × (word_of s at w ≡ Ok n) × Here s n t
  unfolding word_of
  word-forward [] at t h = (at, refl, h)
  word-forward (b ∷ w) at t h =
      let f = eat-forward s at b (w ++ t) h in
      let g = word-forward w (at + 1) t f.1 in
      (g.0, rw f.0 g.1, g.2)

  pub word-backward : (w : List ℕ) (at n : ℕ) (t : List ℕ) → Here s at t → word_of s at w ≡ Ok n → (u : List ℕ) × (t ≡ w ++ u) × Here s n u
  unfolding word_of
  word-backward [] at n t h k = (t, refl, subst (λ (m : ℕ). Here s m t) (ok-is k) h)
  word-backward (b ∷ w) at n t h k =
      let e = bound (eat_of s at b) _ _ k in
      let f = eat-backward s at b e.0 t h e.1 in
      let g = word-backward w e.0 n f.0 f.2 e.2 in
      (g.0, f.1 ∙ ap (λ y. b ∷ y) g.1, g.2)

-- whether a text begins with a word
abbrev pub starts : List ℕ → List ℕ → Bool
starts [] t = true
starts (b ∷ w) [] = false
starts (b ∷ w) (x ∷ t) = cond (eqb x b) (starts w t) false

pub with-starts : (w u : List ℕ) → starts w (w ++ u) ≡ true
with-starts [] u = refl
with-starts (b ∷ w) u = rw (eq-eqb b b refl) (with-starts w u)

starts_with : (w t : List ℕ) → starts w t ≡ true → (u : List ℕ) × (t ≡ w ++ u)
starts_with [] t h = (t, refl)
starts_with (b ∷ w) [] h = absurd (never _ refl h)
starts_with (b ∷ w) (x ∷ t) h = go (eqb x b) refl (starts_with w t) h
  where
    go : (q : Bool) → eqb x b ≡ q → (starts w t ≡ true → (u : List ℕ) × (t ≡ w ++ u)) → cond q (starts w t) false ≡ true → (u : List ℕ) × (x ∷ t ≡ b ∷ w ++ u)
    go true e f k = let g = f k in (g.0, ap₂ {C = List ℕ} (λ y l. y ∷ l) (eqb-true x b e) g.1)
    go false e f k = absurd (never _ refl k)

-- a word that a text begins with is read, and of another the reading fails
pub word-there : (s w : List ℕ) (at : ℕ) (t : List ℕ) → Here s at t → starts w t ≡ true → (n : ℕ) × (word_of s at w ≡ Ok n)
word-there s w at t h k =
    let g = starts_with w t k in
    let f = word-forward s w at g.0 (subst (λ (l : List ℕ). Here s at l) g.1 h) in
    (f.0, f.1)

pub no-word : (s w : List ℕ) (at : ℕ) (t : List ℕ) → Here s at t → starts w t ≡ false → (n : ℕ) × (word_of s at w ≡ Err n)
no-word s w at t h k = go (word_of s at w) refl
  where
    go : (o : Result ℕ ℕ) → word_of s at w ≡ o → (n : ℕ) × (o ≡ Err n)
    go (Err n) e = (n, refl)
    go (Ok n) e = let g = word-backward s w at n t h e in absurd (never _ (sym (ap (starts w) g.1) ∙ k) (with-starts w g.0))
