-- `bits_at` reads exactly the floats: sixteen hexadecimal digits, their letters small; `float_at` gives the float with those bits. Assumes nothing.
use Prim.Native.Nat.{ℕ, zero, suc, ◌+◌, ◌*◌, ◌-◌, ◌/◌, ◌%◌, ◌^◌, ◌≤◌, ◌<◌}
use mathlib.Core.Bool.{Bool, true, false, cond, ◌&&◌}
use mathlib.Core.List.{List, [], ◌∷◌, ◌++◌, append_assoc}
use mathlib.Core.Path.{◌≡◌, refl, sym, ap, subst, ◌∙◌}
use native.Mathlib.Omega.{arith}
use borrow.Author.Tests.{lt-ltb, le-ltb, ltb-true, ltb-false, le-leb, lt-leb, leb-true}
use lib.Dec.{ltb, leb}
use lib.Ieee.{of_bits, binary64}
use Rattle.std.proofs.Common.{Some, None, Ok, ok_or, if◌then◌else◌, slice_get}
use Rattle.spelling.specs.Places.{byte_at}
use Rattle.spelling.specs.Floating.{hex_of, hex_at, digits_at, bits_at, float_at}
use Rattle.spelling.specs.Printed.{hex_digit, hexadecimal, float_text}
use Rattle.spelling.proofs.Forms.{Reads, anything, read_same, single-of}
use Rattle.spelling.proofs.Steps.{Here, some-is, not-both, was-some, bound, byte-forward, byte-backward}

-- a byte that is a digit is the one that is printed for it
hex-is : (b d : ℕ) → hex_of b ≡ Some d → (d < 16) × (b ≡ hex_digit d)
unfolding hex_of hex_digit
hex-is b d = go (leb 48 b) (leb b 57) (leb 97 b) (leb b 102) refl refl refl refl
  where
    letter : (r v : Bool) → leb 97 b ≡ r → leb b 102 ≡ v → (if r && v then Some (b - 97 + 10) else None) ≡ Some d → (d < 16) × (b ≡ cond (ltb d 10) (48 + d) (87 + d))
    letter true true g k h =
        let x : 97 ≤ b = leb-true 97 b g in
        let y : b ≤ 102 = leb-true b 102 k in
        let z : b - 97 + 10 ≡ d = some-is h in
        let l : 10 ≤ d = omega arith in
        (omega arith, rw (le-ltb d 10 l) (omega arith))
    letter true false g k h = absurd (not-both h)
    letter false v g k h = absurd (not-both h)

    go : (p q r v : Bool) → leb 48 b ≡ p → leb b 57 ≡ q → leb 97 b ≡ r → leb b 102 ≡ v
        → (if p && q then Some (b - 48) else if r && v then Some (b - 97 + 10) else None) ≡ Some d → (d < 16) × (b ≡ cond (ltb d 10) (48 + d) (87 + d))
    go true true r v e f g k h =
        let x : 48 ≤ b = leb-true 48 b e in
        let y : b ≤ 57 = leb-true b 57 f in
        let z : b - 48 ≡ d = some-is h in
        let l : d < 10 = omega arith in
        (omega arith, rw (lt-ltb d 10 l) (omega arith))
    go true false r v e f g k h = letter r v g k h
    go false q r v e f g k h = letter r v g k h

hex-of : (d : ℕ) → d < 16 → hex_of (hex_digit d) ≡ Some d
unfolding hex_of hex_digit
hex-of d h = go (ltb d 10) refl
  where
    go : (q : Bool) → ltb d 10 ≡ q → hex_of (cond q (48 + d) (87 + d)) ≡ Some d
    go true e =
        let l : d < 10 = ltb-true d 10 e in
        let a : 48 ≤ 48 + d = omega arith in
        let b : 48 + d ≤ 57 = omega arith in
        let z : 48 + d - 48 ≡ d = omega arith in
        rw (le-leb 48 (48 + d) a, le-leb (48 + d) 57 b) (ap Some z)
    go false e =
        let l : 10 ≤ d = ltb-false d 10 e in
        let a : 48 ≤ 87 + d = omega arith in
        let b : 57 < 87 + d = omega arith in
        let x : 97 ≤ 87 + d = omega arith in
        let y : 87 + d ≤ 102 = omega arith in
        let z : 87 + d - 97 + 10 ≡ d = omega arith in
        rw (le-leb 48 (87 + d) a, lt-leb (87 + d) 57 b, le-leb 97 (87 + d) x, le-leb (87 + d) 102 y) (ap Some z)

module _ (s : List ℕ) where
  hex-forward : (d at : ℕ) (t : List ℕ) → d < 16 → Here s at (hex_digit d ∷ t) → (hex_at s at ≡ Ok (d, at + 1)) × Here s (at + 1) t
  unfolding hex_at
  hex-forward d at t l h = let f = byte-forward s at (hex_digit d) t h in (rw (f.0, hex-of d l), f.1)

  hex-backward : (d n at : ℕ) (t : List ℕ) → Here s at t → hex_at s at ≡ Ok (d, n) → (u : List ℕ) × (d < 16) × (t ≡ hex_digit d ∷ u) × Here s n u
  unfolding hex_at
  hex-backward d n at t h k =
      let b = bound (byte_at s at) _ _ k in
      let e = bound (ok_or (hex_of b.0) at) _ _ b.2 in
      let r = read_same e.2 in
      let i = hex-is b.0 e.0 (was-some (hex_of b.0) at e.0 e.1) in
      let f = byte-backward s at b.0 t h (was-some (slice_get s at) at b.0 b.1) in
      (f.0, omega (arith, i.0, r.0), f.1 ∙ ap (λ x. x ∷ f.0) (i.1 ∙ ap hex_digit r.0), subst (λ (x : ℕ). Here s x f.0) r.1 f.2)

  digits-forward : (k b at : ℕ) (t : List ℕ) → b < 16 ^ k → Here s at (hexadecimal k b ++ t) → (n : ℕ) × (digits_at k s at ≡ Ok (b, n)) × Here s n t
  unfolding hexadecimal digits_at
  digits-forward zero b at t h p = let z : 0 ≡ b = omega arith in (at, ap (λ x. Ok (x, at)) z, p)
  digits-forward (suc k) b at t h p =
      let f = digits-forward k (b / 16) at (hex_digit (b % 16) ∷ t) (omega arith) (rw append_assoc at p) in
      let g = hex-forward (b % 16) f.0 t (omega arith) f.2 in
      let w : 16 * (b / 16) + b % 16 ≡ b = omega arith in
      (f.0 + 1, rw (f.1, g.0) (ap (λ x. Ok (x, f.0 + 1)) w), g.1)

  digits-backward : (k at b n : ℕ) (t : List ℕ) → Here s at t → digits_at k s at ≡ Ok (b, n) → (u : List ℕ) × (b < 16 ^ k) × (t ≡ hexadecimal k b ++ u) × Here s n u
  unfolding hexadecimal digits_at
  digits-backward zero at b n t h e = let r = read_same e in (t, omega (arith, r.0), refl, subst (λ (x : ℕ). Here s x t) r.1 h)
  digits-backward (suc k) at b n t h e =
      let f = bound (digits_at k s at) _ _ e in
      let g = bound (hex_at s f.0.1) _ _ f.2 in
      let r = read_same g.2 in
      let p = digits-backward k at f.0.0 f.0.1 t h f.1 in
      let q = hex-backward g.0.0 g.0.1 f.0.1 p.0 p.3 g.1 in
      let front : b / 16 ≡ f.0.0 = omega (arith, q.1, r.0) in
      let last : b % 16 ≡ g.0.0 = omega (arith, q.1, r.0) in
      let text : t ≡ (hexadecimal k (b / 16) ++ (hex_digit (b % 16) ∷ [])) ++ q.0 =
      rw (front, last) (p.2 ∙ ap (λ l. hexadecimal k f.0.0 ++ l) q.2 ∙ sym (append_assoc (hexadecimal k f.0.0) (hex_digit g.0.0 ∷ []) q.0)) in
      (q.0, omega (arith, p.1, q.1, r.0), text, subst (λ (x : ℕ). Here s x q.0) r.1 q.3)

bits-forward : (s : List ℕ) (at b : ℕ) (t : List ℕ) → b < 0x1_0000_0000_0000_0000 → anything t ≡ true → Here s at (float_text b ++ t) → (n : ℕ) × (bits_at s at ≡ Ok (b, n)) × Here s n t
bits-forward s at b t h p k = digits-forward s 16 b at t h k

pub bits-reads : Reads float_text (λ b. b < 0x1_0000_0000_0000_0000) (λ b. b) bits_at anything
bits-reads = record {
  forward = bits-forward;
  backward = λ s at t b n h k. let q = digits-backward s 16 at b n t h k in (b, q.0, q.1, refl, q.2, q.3);
  single = single-of float_text bits-forward;
}

pub float-reads : Reads float_text (λ b. b < 0x1_0000_0000_0000_0000) (of_bits binary64) float_at anything
unfolding float_at
float-reads = record {
  forward = λ s at b t h p k. let f = bits-forward s at b t h p k in (f.0, rw f.1, f.2);
  backward = λ s at t m n h k.
      let b = bound (bits_at s at) _ _ k in
      let r = read_same b.2 in
      let q = digits-backward s 16 at b.0.0 b.0.1 t h b.1 in
      (b.0.0, q.0, q.1, r.0, q.2, subst (λ (i : ℕ). Here s i q.0) r.1 q.3);
  single = bits-reads.single;
}
