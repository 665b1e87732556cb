-- The digits of a number: the last one and those in front of it, and how many there are. Assumes nothing.
use Prim.Native.Nat.{ℕ, zero, suc, ◌+◌, ◌*◌, ◌/◌, ◌%◌, ◌^◌, ◌≤◌, ◌<◌}
use mathlib.Core.Bool.{Bool, true, false, cond}
use mathlib.Core.List.{List, [], ◌∷◌, ◌++◌}
use mathlib.Core.Path.{◌≡◌, refl, ap}
use native.Mathlib.Decide.{dec_le}
use native.Mathlib.Numerals.{add-one}
use native.Mathlib.Omega.{arith}
use Rattle.std.proofs.Common.{Ok, Err}
use Rattle.std.proofs.Math.Nat.{pow-le-pow_right}
use Rattle.spelling.specs.Floating.{hex_at, digits_at}
use borrow.Author.Tests.{lt-ltb, le-ltb}
use lib.Dec.{ltb}
use lib.ListN.{length, length-append}
use Rattle.spelling.specs.Printed.{decimal, hex_digit, hexadecimal}

pub decimal-one : (k n : ℕ) → n < 10 → decimal k n ≡ (48 + n) ∷ []
unfolding decimal
decimal-one zero n h = refl
decimal-one (suc k) n h = rw (lt-ltb n 10 h)

pub decimal-last : (k n : ℕ) → 10 ≤ n → decimal (suc k) n ≡ decimal k (n / 10) ++ (48 + n % 10) ∷ []
unfolding decimal
decimal-last k n h = rw (le-ltb n 10 h)

-- the digits are the same if more are allowed than there are
pub decimal-more : (k m n : ℕ) → k ≤ m → n < 10 ^ suc k → decimal m n ≡ decimal k n
unfolding decimal
decimal-more zero m n l h = decimal-one m n h
decimal-more (suc k) zero n l h = absurd (omega arith)
decimal-more (suc k) (suc m) n l h =
    ap (λ d. cond (ltb n 10) ((48 + n) ∷ []) (d ++ (48 + n % 10) ∷ [])) (decimal-more k m (n / 10) (omega arith) (omega arith))

pub decimal-short : (k n : ℕ) → length (decimal k n) ≤ k + 1
unfolding decimal
decimal-short zero n = omega arith
decimal-short (suc k) n = go (ltb n 10) (decimal-short k (n / 10))
  where
    go : (b : Bool) → length (decimal k (n / 10)) ≤ k + 1 → length (cond b ((48 + n) ∷ []) (decimal k (n / 10) ++ (48 + n % 10) ∷ [])) ≤ suc k + 1
    go true h = omega arith
    go false h = simp length-append (omega arith)

pub hexadecimal-last : (k b : ℕ) → hexadecimal (suc k) b ≡ hexadecimal k (b / 16) ++ hex_digit (b % 16) ∷ []
unfolding hexadecimal
hexadecimal-last k b = refl

pub hexadecimal-long : (k b : ℕ) → length (hexadecimal k b) ≡ k
unfolding hexadecimal
hexadecimal-long zero b = refl
hexadecimal-long (suc k) b = simp length-append (omega (arith, hexadecimal-long k (b / 16)))

-- where so many digits are not there, no more are: they fail at the same place
pub no-digits : (j : ℕ) (s : List ℕ) (at k n : ℕ) → k ≤ j → digits_at k s at ≡ Err n → digits_at j s at ≡ Err n
unfolding digits_at
no-digits zero s at k n h e = let z : k ≡ 0 = omega arith in rw z at e
no-digits (suc j) s at k n h e = go (dec_le k j) (no-digits j s at k n)
  where
    go : Dec (k ≤ j) → (k ≤ j → digits_at k s at ≡ Err n → digits_at j s at ≡ Err n) → digits_at (suc j) s at ≡ Err n
    go (yes p) f = rw (f p e)
    go (no p) f = let z : k ≡ suc j = omega arith in rw z at e

module _ (k : ℕ) (s : List ℕ) (at b n : ℕ) (e : digits_at k s at ≡ Ok (b, n)) where
  -- a digit more, and where there is none
  pub digit-more : (d m : ℕ) → hex_at s n ≡ Ok (d, m) → digits_at (k + 1) s at ≡ Ok (16 * b + d, m)
  unfolding digits_at
  digit-more d m h = rw (add-one, e, h)

  pub digit-not : (m : ℕ) → k < 16 → hex_at s n ≡ Err m → digits_at 16 s at ≡ Err m
  unfolding digits_at
  digit-not m l h = no-digits 16 s at (suc k) m (omega arith) (rw (e, h))

-- so many digits fit
pub digits-fit : (k b d : ℕ) → k < 16 → b < 16 ^ k → d < 16 → (16 * b + d < 2 ^ 64) × (16 * b + d < 16 ^ (k + 1))
digits-fit k b d l h p =
    let o : zero < 16 = omega arith in
    let g : suc k ≤ 16 = omega arith in
    let w : 16 ^ suc k ≤ 16 ^ 16 = pow-le-pow_right o g in
    (omega arith, rw add-one (omega arith))
