-- Readings that take exactly the texts of a form. A form prints a value as a text; a reading gives what the value means, and the next place.
--     Reads text fit mean read before
--         forward     at a place where the text goes on with the printed form of a fit value, the reading gives what that value means and the
--                     place after it
--         backward    where the reading gives something, what it went past is the printed form of a fit value that means what it gives
--         single      no text goes on with the printed forms of two fit values
--     `before` is what the text after it has to be: a whole number ends where no digit follows.
-- Readings are put together: nothing more to read, a word or a byte in front, one after another, one or another, one of several names, the
-- same with something made of it, the same printed from something else.
-- Assumes nothing.
use Prim.Native.Nat.{ℕ, ◌+◌}
use mathlib.Core.Bool.{Bool, true, false, cond, ◌||◌}
use mathlib.Core.List.{List, [], ◌∷◌, ◌++◌, append_assoc}
use mathlib.Core.Logic.{◌⊎◌, inl, inr}
use mathlib.Core.Path.{◌≡◌, refl, sym, ap, subst, ◌∙◌}
use lib.Dec.{eqb}
use lib.ListN.{drop}
use Rattle.std.proofs.Common.{Option, Some, None, Result, Ok, Err}
use Rattle.spelling.specs.Places.{Read, ◌>>=◌, if_ok, eat_of, word_of, named_or, named}
use Rattle.spelling.proofs.Steps.{Here, begin, never, some-is, not-both, ok-is, not-ok, bound, eat-forward, eat-backward, word-forward, word-backward, starts, with-starts, no-word}

-- what comes after a whole number or a name: a comma or a newline
abbrev pub parted : List ℕ → Bool
parted [] = false
parted (x ∷ t) = eqb x 44 || eqb x 10

abbrev pub anything : List ℕ → Bool
anything t = true

pub record Reads {A M : Type 0} (text : A → List ℕ) (fit : A → Type 0) (mean : A → M) (read : List ℕ → ℕ → Read M) (before : List ℕ → Bool) : Type 0 where
  pub forward : (s : List ℕ) (at : ℕ) (a : A) (t : List ℕ) → fit a → before t ≡ true → Here s at (text a ++ t)
      → (n : ℕ) × (read s at ≡ Ok (mean a, n)) × Here s n t
  pub backward : (s : List ℕ) (at : ℕ) (t : List ℕ) (m : M) (n : ℕ) → Here s at t → read s at ≡ Ok (m, n)
      → (a : A) × (u : List ℕ) × fit a × (mean a ≡ m) × (t ≡ text a ++ u) × Here s n u
  pub single : (a b : A) (t u : List ℕ) → fit a → fit b → before t ≡ true → before u ≡ true → text a ++ t ≡ text b ++ u → (a ≡ b) × (t ≡ u)

-- what was read, and where
pub read_same : {M : Type 0} {m k : M} {n i : ℕ} → ◌≡◌ {A = Read M} (Ok (m, n)) (Ok (k, i)) → (m ≡ k) × (n ≡ i)
read_same h = let e = ok-is h in (ap (λ p. p.0) e, ap (λ p. p.1) e)

-- A reading that gives the value itself leaves no second one.
pub single-of : {A : Type 0} (text : A → List ℕ) {fit : A → Type 0} {read : List ℕ → ℕ → Read A} {before : List ℕ → Bool}
    → ((s : List ℕ) (at : ℕ) (a : A) (t : List ℕ) → fit a → before t ≡ true → Here s at (text a ++ t) → (n : ℕ) × (read s at ≡ Ok (a, n)) × Here s n t)
    → (a b : A) (t u : List ℕ) → fit a → fit b → before t ≡ true → before u ≡ true → text a ++ t ≡ text b ++ u → (a ≡ b) × (t ≡ u)
single-of text forward a b t u p q h k e =
    let s = text a ++ t in
    let f = forward s 0 a t p h (begin s) in
    let g = forward s 0 b u q k (subst (λ (l : List ℕ). Here s 0 l) e (begin s)) in
    let r = read_same (sym f.1 ∙ g.1) in
    (r.0, sym f.2.rest ∙ ap (λ n. drop n s) r.1 ∙ g.2.rest)

-- More may be asked of the text after it than a reading needs.
pub before_more : {A M : Type 0} {text : A → List ℕ} {fit : A → Type 0} {mean : A → M} {read : List ℕ → ℕ → Read M} {before : List ℕ → Bool} (more : List ℕ → Bool)
    → ((t : List ℕ) → more t ≡ true → before t ≡ true) → Reads text fit mean read before → Reads text fit mean read more
before_more more p r = record {
  forward = λ s at a t g h. r.forward s at a t g (p t h);
  backward = r.backward;
  single = λ a b t u g k h i. r.single a b t u g k (p t h) (p u i);
}

-- Nothing more to read.
pub done-reads : {M : Type 0} (m : M) (before : List ℕ → Bool) → Reads {A = Unit {0}} (λ _. []) (λ _. Unit {0}) (λ _. m) (λ s at. Ok (m, at)) before
done-reads m before = record {
  forward = λ s at a t g h k. (at, refl, k);
  backward = λ s at t k n h e. let r = read_same e in (tt, t, tt, r.0, refl, subst (λ (i : ℕ). Here s i t) r.1 h);
  single = λ a b t u g h p q e. (refl, e);
}

-- One reading after another; the second may go by what the first read. What the second prints is what the first wants after it.
module _ {A M N : Type 0} {B : A → Type 0}
    {text_a : A → List ℕ} {fit_a : A → Type 0} {mean_a : A → M} {read_a : List ℕ → ℕ → Read M} {before_a : List ℕ → Bool}
    {text_b : (a : A) → B a → List ℕ} {fit_b : (a : A) → B a → Type 0} {mean_b : (a : A) → B a → N} {before_b : List ℕ → Bool}
    (read_b : M × ℕ → List ℕ → Read N) (first : Reads text_a fit_a mean_a read_a before_a) (second : (a : A) → Reads (text_b a) (fit_b a) (mean_b a) (λ s at. read_b (mean_a a, at) s) before_b)
    (parts : (a : A) (b : B a) (t : List ℕ) → before_b t ≡ true → before_a (text_b a b ++ t) ≡ true) where
  then-forward : (s : List ℕ) (at : ℕ) (p : (a : A) × B a) (t : List ℕ) → fit_a p.0 × fit_b p.0 p.1 → before_b t ≡ true
      → Here s at ((text_a p.0 ++ text_b p.0 p.1) ++ t) → (n : ℕ) × ((read_a s at >>= λ r. read_b r s) ≡ Ok (mean_b p.0 p.1, n)) × Here s n t
  then-forward s at p t g h k =
      let e : Here s at (text_a p.0 ++ (text_b p.0 p.1 ++ t)) = rw append_assoc at k in
      let f = first.forward s at p.0 (text_b p.0 p.1 ++ t) g.0 (parts p.0 p.1 t h) e in
      let r = (second p.0).forward s f.0 p.1 t g.1 h f.2 in
      (r.0, rw f.1 r.1, r.2)

  then-backward : (s : List ℕ) (at : ℕ) (t : List ℕ) (m : N) (n : ℕ) → Here s at t → (read_a s at >>= λ r. read_b r s) ≡ Ok (m, n)
      → (p : (a : A) × B a) × (u : List ℕ) × (fit_a p.0 × fit_b p.0 p.1) × (mean_b p.0 p.1 ≡ m) × (t ≡ (text_a p.0 ++ text_b p.0 p.1) ++ u) × Here s n u
  then-backward s at t m n h k =
      let b = bound (read_a s at) (λ r. read_b r s) (m, n) k in
      let f = first.backward s at t b.0.0 b.0.1 h b.1 in
      let e : read_b (mean_a f.0, b.0.1) s ≡ Ok (m, n) = subst (λ (x : M). read_b (x, b.0.1) s ≡ Ok (m, n)) (sym f.3) b.2 in
      let g = (second f.0).backward s b.0.1 f.1 m n f.5 e in
      ((f.0, g.0), g.1, (f.2, g.2), g.3, f.4 ∙ ap (λ l. text_a f.0 ++ l) g.4 ∙ sym (append_assoc (text_a f.0) (text_b f.0 g.0) g.1), g.5)

  then-single : (p q : (a : A) × B a) (t u : List ℕ) → fit_a p.0 × fit_b p.0 p.1 → fit_a q.0 × fit_b q.0 q.1 → before_b t ≡ true → before_b u ≡ true
      → (text_a p.0 ++ text_b p.0 p.1) ++ t ≡ (text_a q.0 ++ text_b q.0 q.1) ++ u → (p ≡ q) × (t ≡ u)
  then-single p q t u g k h i e =
      let w : text_a p.0 ++ (text_b p.0 p.1 ++ t) ≡ text_a q.0 ++ (text_b q.0 q.1 ++ u) =
      sym (append_assoc (text_a p.0) (text_b p.0 p.1) t) ∙ e ∙ append_assoc (text_a q.0) (text_b q.0 q.1) u in
      let r = first.single p.0 q.0 (text_b p.0 p.1 ++ t) (text_b q.0 q.1 ++ u) g.0 k.0 (parts p.0 p.1 t h) (parts q.0 q.1 u i) w in
      subst (λ (c : A). (d : B c) → fit_b c d → text_b p.0 p.1 ++ t ≡ text_b c d ++ u → (◌≡◌ {A = (a : A) × B a} p (c, d)) × (t ≡ u)) r.0
      (λ d z v. let x = (second p.0).single p.1 d t u g.1 z h i v in (ap (λ (b : B p.0). (p.0, b)) x.0, x.1)) q.1 k.1 r.1

  pub then-reads : Reads {A = (a : A) × B a} (λ p. text_a p.0 ++ text_b p.0 p.1) (λ p. fit_a p.0 × fit_b p.0 p.1) (λ p. mean_b p.0 p.1)
      (λ s at. read_a s at >>= λ r. read_b r s) before_b
  then-reads = record { forward = then-forward; backward = then-backward; single = then-single }

-- The same, with something made of what was read.
pub mean-reads : {A M N : Type 0} {text : A → List ℕ} {fit : A → Type 0} {mean : A → M} {read : List ℕ → ℕ → Read M} {before : List ℕ → Bool} (f : M → N)
    → Reads text fit mean read before → Reads text fit (λ a. f (mean a)) (λ s at. read s at >>= λ r. Ok (f r.0, r.1)) before
mean-reads {read = read} f r = record {
  forward = λ s at a t g h k. let q = r.forward s at a t g h k in (q.0, rw q.1, q.2);
  backward = λ s at t m n h k.
      let b = bound (read s at) (λ r. Ok (f r.0, r.1)) (m, n) k in
      let e = read_same b.2 in
      let q = r.backward s at t b.0.0 b.0.1 h b.1 in
      (q.0, q.1, q.2, ap f q.3 ∙ e.0, q.4, subst (λ (i : ℕ). Here s i q.1) e.1 q.5);
  single = r.single;
}

-- A byte or a word in front.
same-rest : (w x y : List ℕ) → w ++ x ≡ w ++ y → x ≡ y
same-rest [] x y e = e
same-rest (b ∷ w) x y e = same-rest w x y (cc)

module _ {A M : Type 0} {text : A → List ℕ} {fit : A → Type 0} {mean : A → M} {read : List ℕ → ℕ → Read M} {before : List ℕ → Bool} (r : Reads text fit mean read before) where
  pub after-word : (w : List ℕ) → Reads (λ a. w ++ text a) fit mean (λ s at. word_of s at w >>= read s) before
  after-word w = record {
    forward = λ s at a t g h k.
        let e : Here s at (w ++ (text a ++ t)) = rw append_assoc at k in
        let f = word-forward s w at (text a ++ t) e in
        let q = r.forward s f.0 a t g h f.2 in
        (q.0, rw f.1 q.1, q.2);
    backward = λ s at t m n h k.
        let b = bound (word_of s at w) (read s) (m, n) k in
        let f = word-backward s w at b.0 t h b.1 in
        let q = r.backward s b.0 f.0 m n f.2 b.2 in
        (q.0, q.1, q.2, q.3, f.1 ∙ ap (λ l. w ++ l) q.4 ∙ sym (append_assoc w (text q.0) q.1), q.5);
    single = λ a b t u g k h i e.
        r.single a b t u g k h i (same-rest w (text a ++ t) (text b ++ u) (sym (append_assoc w (text a) t) ∙ e ∙ append_assoc w (text b) u));
  }

  pub after-byte : (x : ℕ) → Reads (λ a. x ∷ text a) fit mean (λ s at. eat_of s at x >>= read s) before
  after-byte x = record {
    forward = λ s at a t g h k.
        let f = eat-forward s at x (text a ++ t) k in
        let q = r.forward s (at + 1) a t g h f.1 in
        (q.0, rw f.0 q.1, q.2);
    backward = λ s at t m n h k.
        let b = bound (eat_of s at x) (read s) (m, n) k in
        let f = eat-backward s at x b.0 t h b.1 in
        let q = r.backward s b.0 f.0 m n f.2 b.2 in
        (q.0, q.1, q.2, q.3, f.1 ∙ ap (λ l. x ∷ l) q.4, q.5);
    single = λ a b t u g k h i e. r.single a b t u g k h i (same-rest (x ∷ []) (text a ++ t) (text b ++ u) e);
  }

-- The same text printed from something else: f of what was printed, and g the way back.
module _ {A B M : Type 0} {text : A → List ℕ} {fit : A → Type 0} {mean : A → M} {read : List ℕ → ℕ → Read M} {before : List ℕ → Bool}
    {text_b : B → List ℕ} {fit_b : B → Type 0} {mean_b : B → M}
    (r : Reads text fit mean read before) (f : A → B) (g : B → A) (whole : (b : B) → f (g b) ≡ b) (text-is : (a : A) → text_b (f a) ≡ text a)
    (mean-is : (a : A) → mean_b (f a) ≡ mean a) (fit-to : (b : B) → fit_b b → fit (g b)) (fit-of : (a : A) → fit a → fit_b (f a)) where
  pub as-reads : Reads text_b fit_b mean_b read before
  as-reads = record {
    forward = λ s at b t p h k.
        let e : Here s at (text (g b) ++ t) = subst (λ (l : List ℕ). Here s at (l ++ t)) (ap text_b (sym (whole b)) ∙ text-is (g b)) k in
        let q = r.forward s at (g b) t (fit-to b p) h e in
        (q.0, q.1 ∙ ap (λ m. Ok (m, q.0)) (sym (mean-is (g b)) ∙ ap mean_b (whole b)), q.2);
    backward = λ s at t m n h k.
        let q = r.backward s at t m n h k in
        (f q.0, q.1, fit-of q.0 q.2, mean-is q.0 ∙ q.3, q.4 ∙ ap (λ l. l ++ q.1) (sym (text-is q.0)), q.5);
    single = λ a b t u p q h i e.
        let v = r.single (g a) (g b) t u (fit-to a p) (fit-to b q) h i (ap (λ l. l ++ t) (sym (text-is (g a)) ∙ ap text_b (whole a)) ∙ e ∙ ap (λ l. l ++ u) (ap text_b (sym (whole b)) ∙ text-is (g b))) in
        (sym (whole a) ∙ ap f v.0 ∙ whole b, v.1);
  }

-- One or another: a word and then the first, where the word stands there, and otherwise the second, which never begins with that word.
module _ {A B M : Type 0} {text_a : A → List ℕ} {fit_a : A → Type 0} {mean_a : A → M} {read_a : List ℕ → ℕ → Read M}
    {text_b : B → List ℕ} {fit_b : B → Type 0} {mean_b : B → M} {read_b : List ℕ → ℕ → Read M} {before : List ℕ → Bool}
    (w : List ℕ) (first : Reads text_a fit_a mean_a read_a before) (second : Reads text_b fit_b mean_b read_b before)
    (apart : (b : B) (t : List ℕ) → starts w (text_b b ++ t) ≡ false) where
  abbrev pub text_or : A ⊎ B → List ℕ
  text_or (inl a) = w ++ text_a a
  text_or (inr b) = text_b b

  abbrev pub fit_or : A ⊎ B → Type 0
  fit_or (inl a) = fit_a a
  fit_or (inr b) = fit_b b

  abbrev pub mean_or : A ⊎ B → M
  mean_or (inl a) = mean_a a
  mean_or (inr b) = mean_b b

  or-forward : (s : List ℕ) (at : ℕ) (p : A ⊎ B) (t : List ℕ) → fit_or p → before t ≡ true → Here s at (text_or p ++ t)
      → (n : ℕ) × (if_ok (word_of s at w) (read_a s) (λ _. read_b s at) ≡ Ok (mean_or p, n)) × Here s n t
  or-forward s at (inl a) t g h k =
      let e : Here s at (w ++ (text_a a ++ t)) = rw append_assoc at k in
      let f = word-forward s w at (text_a a ++ t) e in
      let q = first.forward s f.0 a t g h f.2 in
      (q.0, rw f.1 q.1, q.2)
  or-forward s at (inr b) t g h k =
      let q = second.forward s at b t g h k in
      (q.0, rw (no-word s w at (text_b b ++ t) k (apart b t)).1 q.1, q.2)

  or-backward : (s : List ℕ) (at : ℕ) (t : List ℕ) (m : M) (n : ℕ) → Here s at t → if_ok (word_of s at w) (read_a s) (λ _. read_b s at) ≡ Ok (m, n)
      → (p : A ⊎ B) × (u : List ℕ) × fit_or p × (mean_or p ≡ m) × (t ≡ text_or p ++ u) × Here s n u
  or-backward s at t m n h = go (word_of s at w) refl
    where
      go : (o : Result ℕ ℕ) → word_of s at w ≡ o → if_ok o (read_a s) (λ _. read_b s at) ≡ Ok (m, n)
          → (p : A ⊎ B) × (u : List ℕ) × fit_or p × (mean_or p ≡ m) × (t ≡ text_or p ++ u) × Here s n u
      go (Err i) e k = let q = second.backward s at t m n h k in (inr q.0, q.1, q.2, q.3, q.4, q.5)
      go (Ok i) e k =
          let f = word-backward s w at i t h e in
          let q = first.backward s i f.0 m n f.2 k in
          (inl q.0, q.1, q.2, q.3, f.1 ∙ ap (λ l. w ++ l) q.4 ∙ sym (append_assoc w (text_a q.0) q.1), q.5)

  -- no text goes on with both
  clash : (a : A) (b : B) (t u : List ℕ) → (w ++ text_a a) ++ t ≡ text_b b ++ u → ⊥
  clash a b t u e = never _ (apart b u) (ap (starts w) (sym e ∙ append_assoc w (text_a a) t) ∙ with-starts w (text_a a ++ t))

  or-single : (p q : A ⊎ B) (t u : List ℕ) → fit_or p → fit_or q → before t ≡ true → before u ≡ true → text_or p ++ t ≡ text_or q ++ u → (p ≡ q) × (t ≡ u)
  or-single (inl a) (inl b) t u g k h i e =
      let v = first.single a b t u g k h i (same-rest w (text_a a ++ t) (text_a b ++ u) (sym (append_assoc w (text_a a) t) ∙ e ∙ append_assoc w (text_a b) u)) in
      (ap inl v.0, v.1)
  or-single (inr a) (inr b) t u g k h i e = let v = second.single a b t u g k h i e in (ap inr v.0, v.1)
  or-single (inl a) (inr b) t u g k h i e = absurd (clash a b t u e)
  or-single (inr a) (inl b) t u g k h i e = absurd (clash b a u t (sym e))

  pub or-reads : Reads text_or fit_or mean_or (λ s at. if_ok (word_of s at w) (read_a s) (λ _. read_b s at)) before
  or-reads = record { forward = or-forward; backward = or-backward; single = or-single }

-- One of several names, tried in turn.
module _ {K : Type 0} (name : K → List ℕ) where
  abbrev pub named_in : List K → List ℕ → Option K
  named_in [] t = None
  named_in (k ∷ l) t = cond (starts (name k) t) (Some k) (named_in l t)

  named-forward : (l : List K) (s : List ℕ) (at failed : ℕ) (k : K) (t : List ℕ) → Here s at (name k ++ t) → named_in l (name k ++ t) ≡ Some k
      → (n : ℕ) × (named_or name s at failed l ≡ Ok (k, n)) × Here s n t
  unfolding named_or
  named-forward [] s at failed k t h e = absurd (not-both e)
  named-forward (j ∷ l) s at failed k t h e = go (starts (name j) (name k ++ t)) refl (λ i. named-forward l s at i k t h) e
    where
      go : (b : Bool) → starts (name j) (name k ++ t) ≡ b
          → ((i : ℕ) → named_in l (name k ++ t) ≡ Some k → (n : ℕ) × (named_or name s at i l ≡ Ok (k, n)) × Here s n t)
          → cond b (Some j) (named_in l (name k ++ t)) ≡ Some k
          → (n : ℕ) × (if_ok (word_of s at (name j)) (λ n. Ok (j, n)) (λ i. named_or name s at i l) ≡ Ok (k, n)) × Here s n t
      go true e f q =
          let w = word-forward s (name k) at t h in
          let x : word_of s at (name j) ≡ Ok w.0 = rw (some-is q) w.1 in
          (w.0, rw x (ap (λ i. Ok (i, w.0)) (some-is q)), w.2)
      go false e f q =
          let w = no-word s (name j) at (name k ++ t) h e in
          let g = f w.0 q in
          (g.0, rw w.1 g.1, g.2)

  named-backward : (l : List K) (s : List ℕ) (at failed : ℕ) (t : List ℕ) (k : K) (n : ℕ) → Here s at t → named_or name s at failed l ≡ Ok (k, n)
      → (u : List ℕ) × (t ≡ name k ++ u) × Here s n u
  unfolding named_or
  named-backward [] s at failed t k n h e = absurd (not-ok e)
  named-backward (j ∷ l) s at failed t k n h e = go (word_of s at (name j)) refl (λ i. named-backward l s at i t k n h) e
    where
      go : (o : Result ℕ ℕ) → word_of s at (name j) ≡ o → ((i : ℕ) → named_or name s at i l ≡ Ok (k, n) → (u : List ℕ) × (t ≡ name k ++ u) × Here s n u)
          → if_ok o (λ n. Ok (j, n)) (λ i. named_or name s at i l) ≡ Ok (k, n) → (u : List ℕ) × (t ≡ name k ++ u) × Here s n u
      go (Err i) e f q = f i q
      go (Ok i) e f q =
          let r = read_same q in
          let w = word-backward s (name j) at i t h e in
          (w.0, w.1 ∙ ap (λ x. name x ++ w.0) r.0, subst (λ (x : ℕ). Here s x w.0) r.1 w.2)

  pub named-reads : (l : List K) (before : List ℕ → Bool) → ((k : K) (t : List ℕ) → before t ≡ true → named_in l (name k ++ t) ≡ Some k)
      → Reads name (λ _. Unit {0}) (λ k. k) (λ s at. named name s at l) before
  named-reads l before found = record {
    forward = λ s at k t g h p. named-forward l s at at k t p (found k t h);
    backward = λ s at t k n h e. let b = named-backward l s at at t k n h e in (k, b.0, tt, refl, b.1, b.2);
    single = single-of name (λ s at k t g h p. named-forward l s at at k t p (found k t h));
  }
