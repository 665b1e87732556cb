-- What is laid one after another is laid as a whole, over plain values. Assumes nothing.
use Prim.Native.Nat.{ℕ, zero, suc, ◌+◌, ◌-◌, ◌/◌, ◌%◌, ◌^◌, ◌≤◌, ◌<◌, min}
use mathlib.Core.List.{List, [], ◌∷◌, ◌++◌}
use mathlib.Core.Path.{◌≡◌, refl, ap, ap₂}
use native.Mathlib.Numerals.{add-one}
use native.Mathlib.Omega.{arith}
use lib.Ieee.{nan, binary64, of_bits}
use lib.ListN.{length, get_or}
use Rattle.std.proofs.lemmas.List.{get_or-take}
use Rattle.answer.specs.Endings.{blank_group, groups_of}
use Rattle.answer.specs.declared.Answer.{Answer}
use Rattle.answer.specs.declared.GroupFit.{GroupFit}
use Rattle.loops.specs.Turns.{fold}
use Rattle.loops.proofs.Turning.{fold-append}
use Rattle.spelling.proofs.Digits.{decimal-one, decimal-last, decimal-more, hexadecimal-last}
use Rattle.spelling.specs.Printed.{decimal, hex_digit, hexadecimal}
use Rattle.reply.specs.Laid.{next_byte, laying}
use Rattle.reply.specs.declared.writer.Writer.{Writer}
use Rattle.reply.specs.Lines.{group_line}
use Rattle.reply.specs.Reply.{rising, group_lines}

module _ (w : Writer) where
  pub one_digit : (n : ℕ) → n < 10 → fold next_byte w (decimal 19 n) ≡ next_byte w (48 + n)
  one_digit n h = rw (decimal-one 19 n h)

  -- in front of a usize's last digit there are at most nineteen, so that twenty may be allowed there too
  pub more_digits : (n : ℕ) → 10 ≤ n → n < 2 ^ 64 → fold next_byte w (decimal 19 n) ≡ next_byte (fold next_byte w (decimal 19 (n / 10))) (48 + n % 10)
  more_digits n h r =
      rw (decimal-last 18 n h, decimal-more 18 19 (n / 10) (omega arith) (omega arith)) (fold-append next_byte w (decimal 18 (n / 10)) ((48 + n % 10) ∷ []))

  pub no_hex : (k n : ℕ) → k ≤ 0 → fold next_byte w (hexadecimal k n) ≡ w
  unfolding hexadecimal
  no_hex k n h = let e : k ≡ 0 = omega arith in rw e

  pub more_hex : (k n : ℕ) → 0 < k → fold next_byte w (hexadecimal k n) ≡ next_byte (fold next_byte w (hexadecimal (k - 1) (n / 16))) (hex_digit (n % 16))
  more_hex zero n h = absurd (omega arith)
  more_hex (suc k) n h =
      let p : suc k - 1 ≡ k = omega arith in
      rw (hexadecimal-last k n, p) (fold-append next_byte w (hexadecimal k (n / 16)) (hex_digit (n % 16) ∷ []))

-- ---- lines of one sort after another

pub rising_none : (f : ℕ → List ℕ) → rising f 0 ≡ []
unfolding rising
rising_none f = refl

pub rising_next : (f : ℕ → List ℕ) (i : ℕ) (w : Writer) → fold next_byte w (rising f (i + 1)) ≡ fold next_byte (fold next_byte w (rising f i)) (f i)
unfolding rising
rising_next f i w = rw (add-one, fold-append)

rising-alike : (f g : ℕ → List ℕ) (n : ℕ) → ((i : ℕ) → i < n → f i ≡ g i) → rising f n ≡ rising g n
unfolding rising
rising-alike f g zero e = refl
rising-alike f g (suc n) e = ap₂ ◌++◌ (rising-alike f g n (λ i h. e i (omega arith))) (e n (omega arith))

-- the groups that count, one after another
pub groups-laid : (a : Answer) (items : List GroupFit) (n : ℕ) (w u : Writer) → items ≡ groups_of a → length items ≡ min a.group_count 40
    → n ≤ length items → length items ≤ n → u ≡ laying (rising (λ i. group_line (get_or items i blank_group)) n) w → u ≡ laying (group_lines a) w
unfolding group_lines
groups-laid a items n w u e l h k q =
    let m : n ≡ min a.group_count 40 = omega arith in
    let each : rising (λ i. group_line (get_or items i blank_group)) n ≡ rising (λ i. group_line (get_or a.groups i blank_group)) n =
    rw e (rising-alike _ _ n (λ i j. ap group_line (get_or-take a.group_count a.groups i blank_group (omega arith)))) in
    rw (← m) (rw each at q)

-- ---- the constant of NaN

pub nan_is : of_bits binary64 0x7ff8_0000_0000_0000 ≡ nan
unfolding of_bits
nan_is = refl
