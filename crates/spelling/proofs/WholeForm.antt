-- `whole_at` reads exactly the whole numbers: one to five digits, no needless zero. Assumes nothing.
use Prim.Native.Nat.{ℕ, zero, suc, ◌+◌, ◌*◌, ◌-◌, ◌/◌, ◌%◌, ◌^◌, ◌≤◌, ◌<◌}
use mathlib.Core.Bool.{Bool, true, false, cond, ◌||◌, ◌&&◌}
use mathlib.Core.List.{List, [], ◌∷◌, ◌++◌, append_assoc}
use mathlib.Core.Path.{◌≡◌, refl, sym, ap, subst, ◌∙◌}
use native.Mathlib.Decide.{dec_le}
use native.Mathlib.Omega.{arith}
use borrow.Author.Tests.{ltb-true, ltb-false, le-leb, leb-true, eqb-true}
use lib.Dec.{ltb, leb, eqb}
use Rattle.std.proofs.Common.{Some, None, Ok, Err, ok_or, if◌then◌else◌, slice_get}
use Rattle.spelling.specs.Places.{Read, byte_at}
use Rattle.spelling.specs.Wholes.{digit_of, digit_at, longer, more_of, more_digits, whole_at}
use Rattle.spelling.specs.Printed.{decimal, whole_text}
use Rattle.spelling.proofs.Digits.{decimal-last, decimal-more}
use Rattle.spelling.proofs.Forms.{Reads, parted, read_same, single-of}
use Rattle.spelling.proofs.Steps.{Here, never, some-is, not-both, was-some, bound, byte-forward, byte-backward}

digit-of : (d : ℕ) → d < 10 → digit_of (48 + d) ≡ Some d
unfolding digit_of
digit-of d h =
    let p : 48 ≤ 48 + d = omega arith in
    let q : 48 + d ≤ 57 = omega arith in
    let e : 48 + d - 48 ≡ d = omega arith in
    rw (le-leb 48 (48 + d) p, le-leb (48 + d) 57 q) (ap Some e)

digit-is : (b d : ℕ) → digit_of b ≡ Some d → (d < 10) × (b ≡ 48 + d)
unfolding digit_of
digit-is b d = go (leb 48 b) refl (leb b 57) refl
  where
    go : (p : Bool) → leb 48 b ≡ p → (q : Bool) → leb b 57 ≡ q → (if p && q then Some (b - 48) else None) ≡ Some d → (d < 10) × (b ≡ 48 + d)
    go true e true f h =
        let x : 48 ≤ b = leb-true 48 b e in
        let y : b ≤ 57 = leb-true b 57 f in
        let z : b - 48 ≡ d = some-is h in
        (omega arith, omega arith)
    go true e false f h = absurd (not-both h)
    go false e q f h = absurd (not-both h)

-- one digit more
decimal-next : (k v d : ℕ) → d < 10 → 1 ≤ v → decimal (suc k) (10 * v + d) ≡ decimal k v ++ ((48 + d) ∷ [])
decimal-next k v d h p =
    let front : (10 * v + d) / 10 ≡ v = omega arith in
    let last : (10 * v + d) % 10 ≡ d = omega arith in
    rw (decimal-last k (10 * v + d) (omega arith), front, last)

module _ (s : List ℕ) where
  digit-forward : (d at : ℕ) (t : List ℕ) → d < 10 → Here s at ((48 + d) ∷ t) → (digit_at s at ≡ Ok (d, at + 1)) × Here s (at + 1) t
  unfolding digit_at
  digit-forward d at t l h = let f = byte-forward s at (48 + d) t h in (rw (f.0, digit-of d l), f.1)

  digit-backward : (d n at : ℕ) (t : List ℕ) → Here s at t → digit_at s at ≡ Ok (d, n) → (u : List ℕ) × (d < 10) × (t ≡ (48 + d) ∷ u) × Here s n u
  unfolding digit_at
  digit-backward d n at t h k =
      let b = bound (byte_at s at) _ _ k in
      let e = bound (ok_or (digit_of b.0) at) _ _ b.2 in
      let r = read_same e.2 in
      let i = digit-is b.0 e.0 (was-some (digit_of b.0) at e.0 e.1) in
      let f = byte-backward s at b.0 t h (was-some (slice_get s at) at b.0 b.1) in
      (f.0, omega (arith, i.0, r.0), f.1 ∙ ap (λ x. x ∷ f.0) (i.1 ∙ ap (λ x. 48 + x) r.0), subst (λ (x : ℕ). Here s x f.0) r.1 f.2)

  -- a comma or a newline is no digit
  no_digit : (at : ℕ) (t : List ℕ) → parted t ≡ true → Here s at t → digit_at s at ≡ Err at
  unfolding digit_at digit_of
  no_digit at [] p h = absurd (never _ refl p)
  no_digit at (x ∷ t) p h = rw ((byte-forward s at x t h).0, go (eqb x 44) (eqb x 10) refl refl p)
    where
      go : (a b : Bool) → eqb x 44 ≡ a → eqb x 10 ≡ b → a || b ≡ true → digit_of x ≡ None
      go true b e f q = rw (eqb-true x 44 e)
      go false true e f q = rw (eqb-true x 10 f)
      go false false e f q = absurd (never _ refl q)

  more-is : (n d : ℕ × ℕ) → digit_at s n.1 ≡ Ok d → 1 ≤ n.0 → n.0 ≤ 9999 → more_of s n ≡ (10 * n.0 + d.0, d.1)
  unfolding more_of
  more-is n d e p q = rw (e, le-leb 1 n.0 p, le-leb n.0 9999 q)

  more-not : (n : ℕ × ℕ) → digit_at s n.1 ≡ Err n.1 → more_of s n ≡ n
  unfolding more_of
  more-not n e = rw e

  settled : (n : ℕ × ℕ) (k j : ℕ) → j ≤ k → more_of s (more_digits j s n) ≡ more_digits j s n → more_digits k s n ≡ more_digits j s n
  unfolding more_digits
  settled n zero j h e = let z : j ≡ 0 = omega arith in rw z
  settled n (suc k) j h e = go (dec_le j k) (settled n k j)
    where
      go : Dec (j ≤ k) → (j ≤ k → more_of s (more_digits j s n) ≡ more_digits j s n → more_digits k s n ≡ more_digits j s n)
          → more_of s (more_digits k s n) ≡ more_digits j s n
      go (yes p) r = ap (more_of s) (r p e) ∙ e
      go (no p) r = let z : j ≡ suc k = omega arith in rw z

  -- some of the digits were read, and they are n
  Read_so_far : ℕ → ℕ → ℕ → List ℕ → Type 0
  Read_so_far k n at t = (d : ℕ × ℕ) × (j : ℕ) × (digit_at s at ≡ Ok d) × (j ≤ k) × ((more_digits j s d).0 ≡ n) × Here s (more_digits j s d).1 t

  first-digit : (k n at : ℕ) (t : List ℕ) → n < 10 → Here s at (((48 + n) ∷ []) ++ t) → Read_so_far k n at t
  unfolding Read_so_far more_digits
  first-digit k n at t h p = let f = digit-forward n at t h p in ((n, at + 1), 0, f.0, omega arith, refl, f.1)

  -- from all digits but the last
  next-digit : (k n at : ℕ) (t : List ℕ) → 10 ≤ n → n < 100000 → Read_so_far k (n / 10) at ((48 + n % 10) ∷ t) → Read_so_far (suc k) n at t
  unfolding Read_so_far more_digits
  next-digit k n at t over under r =
      let c = more_digits r.1 s r.0 in
      let f = digit-forward (n % 10) c.1 t (omega arith) r.5 in
      let v : c.0 ≡ n / 10 = r.4 in
      let e = more-is c (n % 10, c.1 + 1) f.0 (omega arith) (omega arith) in
      let w : 10 * c.0 + n % 10 ≡ n = omega arith in
      (r.0, suc r.1, r.2, omega (arith, r.3), ap (λ m. m.0) e ∙ w, subst (λ (m : ℕ). Here s m t) (sym (ap (λ m. m.1) e)) f.1)

  digits-forward : (k n at : ℕ) (t : List ℕ) → n < 10 ^ suc k → n < 100000 → Here s at (decimal k n ++ t) → Read_so_far k n at t
  unfolding decimal
  digits-forward zero n at t h l p = first-digit 0 n at t h p
  digits-forward (suc k) n at t h l p = go (ltb n 10) refl (digits-forward k (n / 10) at) p
    where
      go : (q : Bool) → ltb n 10 ≡ q → ((u : List ℕ) → n / 10 < 10 ^ suc k → n / 10 < 100000 → Here s at (decimal k (n / 10) ++ u) → Read_so_far k (n / 10) at u)
          → Here s at (cond q ((48 + n) ∷ []) (decimal k (n / 10) ++ ((48 + n % 10) ∷ [])) ++ t) → Read_so_far (suc k) n at t
      go true e r q = first-digit (suc k) n at t (ltb-true n 10 e) q
      go false e r q = next-digit k n at t (ltb-false n 10 e) l (r ((48 + n % 10) ∷ t) (omega arith) (omega arith) (rw append_assoc at q))

  -- what lies between a place where t is left and the place of r is the number that r holds
  Past : ℕ → List ℕ → ℕ × ℕ → Type 0
  Past k t r = (u : List ℕ) × (r.0 < 10 ^ suc k) × (t ≡ decimal k r.0 ++ u) × Here s r.1 u

  more-past : (k : ℕ) (r : ℕ × ℕ) (t : List ℕ) → Past k t r → Past (suc k) t (more_of s r)
  unfolding Past more_of
  more-past k r t q = go (digit_at s r.1) refl
    where
      same : Past (suc k) t r
      same = (q.0, omega (arith, q.1), q.2 ∙ ap (λ l. l ++ q.0) (sym (decimal-more k (suc k) r.0 (omega arith) q.1)), q.3)

      tested : (d : ℕ × ℕ) → digit_at s r.1 ≡ Ok d → (a b : Bool) → leb 1 r.0 ≡ a → leb r.0 9999 ≡ b
          → Past (suc k) t (if a && b then (10 * r.0 + d.0, d.1) else r)
      tested d e true true x y =
          let f = digit-backward d.0 d.1 r.1 q.0 q.3 e in
          let over : 1 ≤ r.0 = leb-true 1 r.0 x in
          let text : t ≡ decimal (suc k) (10 * r.0 + d.0) ++ f.0 =
          q.2 ∙ ap (λ l. decimal k r.0 ++ l) f.2 ∙ sym (append_assoc (decimal k r.0) ((48 + d.0) ∷ []) f.0) ∙ ap (λ l. l ++ f.0) (sym (decimal-next k r.0 d.0 f.1 over)) in
          (f.0, omega (arith, q.1, f.1), text, f.3)
      tested d e true false x y = same
      tested d e false b x y = same

      go : (o : Read ℕ) → digit_at s r.1 ≡ o → Past (suc k) t (longer r o)
      go (Err i) e = same
      go (Ok d) e = tested d e (leb 1 r.0) (leb r.0 9999) refl refl

  digits-backward : (k : ℕ) (r : ℕ × ℕ) (t : List ℕ) → Past 0 t r → Past k t (more_digits k s r)
  unfolding more_digits
  digits-backward zero r t p = p
  digits-backward (suc k) r t p = more-past k (more_digits k s r) t (digits-backward k r t p)

whole-forward : (s : List ℕ) (at n : ℕ) (t : List ℕ) → n < 100000 → parted t ≡ true → Here s at (whole_text n ++ t) → (i : ℕ) × (whole_at s at ≡ Ok (n, i)) × Here s i t
unfolding whole_at Read_so_far
whole-forward s at n t h p k =
    let f = digits-forward s 4 n at t h h k in
    let c = more_digits f.1 s f.0 in
    let e : more_digits 4 s f.0 ≡ c = settled s f.0 4 f.1 f.3 (more-not s c (no_digit s c.1 t p f.5)) in
    (c.1, rw (f.2, e) (ap (λ m. Ok (m, c.1)) f.4), f.5)

pub whole-reads : Reads whole_text (λ n. n < 100000) (λ n. n) whole_at parted
unfolding whole_at Past decimal
whole-reads = record {
  forward = whole-forward;
  backward = λ s at t m n h k.
      let b = bound (digit_at s at) _ _ k in
      let f = digit-backward s b.0.0 b.0.1 at t h b.1 in
      let q = digits-backward s 4 b.0 t (f.0, f.1, f.2, f.3) in
      let r = read_same b.2 in
      ((more_digits 4 s b.0).0, q.0, q.1, r.0, q.2, subst (λ (i : ℕ). Here s i q.0) r.1 q.3);
  single = single-of whole_text whole-forward;
}
