-- `root::guess` meets its contract: both patterns are those of numbers, and no operation on the way reaches an infinity. Assumes nothing.
use mathlib.Core.Path.{◌≡◌, sym, ap, ◌∙◌}
use Prim.Native.Nat.{ℕ, ◌+◌, ◌*◌, ◌^◌, ◌≤◌}
use native.Mathlib.Nat.{le_trans, le_of_eq}
use native.Mathlib.Omega.{arith}
use lib.Dec.{lit≤}
use lib.Pow.{pow_pos, pow-add}
use lib.Ieee.{Float, binary64, of_bits, add, sub, mul}
use Rattle.root.specs.Root.{count}
use Rattle.root.proofs.Order.{count-le}
use Rattle.root.proofs.Place.{count-is}
use Rattle.root.proofs.Value.{bits-value, bits_positive}
use Rattle.root.proofs.Patterns.{no_nan}
use Rattle.root.proofs.Bounded.{Within, within-value, wider, mul-within, add-within, sub_within, newton-number}
use Rattle.root.proofs.guess.Goals as goal

-- a pattern up to that of 2 ^ i
bits-within : (i b : ℕ) → i ≤ 900 → b ≤ (1022 + i) * 2 ^ 52 + 2 ^ 52 → Within i (of_bits binary64 b)
bits-within i b s h =
    let e : 52 + (1022 + i) ≡ i + 1074 = omega arith in
    within-value i (of_bits binary64 b) _ (count b) (2 ^ 1074) (pow_pos 1074) (bits-value b (omega arith))
    (le_trans (count-le b ((1022 + i) * 2 ^ 52 + 2 ^ 52) h)
    (le_of_eq (count-is (1022 + i) (2 ^ 52) (lit≤ tt) (lit≤ tt) ∙ sym (pow-add 2 52 (1022 + i)) ∙ ap (λ (n : ℕ). 2 ^ n) e ∙ pow-add 2 i 1074)))

-- the way from v, y and the polynomial's numbers to g, within 2 ^ 55
bounded : (v y c₀ c₁ c₂ c₃ c₄ : Float) → Within 0 v → Within 2 y → Within 3 c₀ → Within 3 c₁ → Within 3 c₂ → Within 3 c₃ → Within 3 c₄
    → (let w = mul binary64 v y in
    let a = mul binary64 w y in
    let b = mul binary64 a a in
    Within 55 (mul binary64 w (add binary64 (sub binary64 c₀ (mul binary64 c₁ a)) (mul binary64 b (add binary64 (sub binary64 c₂ (mul binary64 c₃ a)) (mul binary64 c₄ b))))))
bounded v y c₀ c₁ c₂ c₃ c₄ hv hy h₀ h₁ h₂ h₃ h₄ =
    let w = mul binary64 v y in
    let a = mul binary64 w y in
    let b = mul binary64 a a in
    let hw : Within 4 w = mul-within 0 2 v y (lit≤ tt) hv hy in
    let ha : Within 8 a = mul-within 4 2 w y (lit≤ tt) hw hy in
    let hb : Within 18 b = mul-within 8 8 a a (lit≤ tt) ha ha in
    let line : (c d : Float) → Within 3 c → Within 3 d → Within 16 (sub binary64 c (mul binary64 d a)) =
    λ c d hc hd. sub_within 13 c (mul binary64 d a) (lit≤ tt) (wider 3 13 c (lit≤ tt) hc) (mul-within 3 8 d a (lit≤ tt) hd ha) in
    let l = sub binary64 c₂ (mul binary64 c₃ a) in
    let k = add binary64 l (mul binary64 c₄ b) in
    let hk : Within 26 k = add-within 23 l (mul binary64 c₄ b) (lit≤ tt) (wider 16 23 l (lit≤ tt) (line c₂ c₃ h₂ h₃)) (mul-within 3 18 c₄ b (lit≤ tt) h₄ hb) in
    let f = sub binary64 c₀ (mul binary64 c₁ a) in
    let p = add binary64 f (mul binary64 b k) in
    let hp : Within 49 p = add-within 46 f (mul binary64 b k) (lit≤ tt) (wider 16 46 f (lit≤ tt) (line c₀ c₁ h₀ h₁)) (mul-within 18 26 b k (lit≤ tt) hb hk) in
    mul-within 4 49 w p (lit≤ tt) hw hp

pub float_from_bits-v : goal.float_from_bits-v
float_from_bits-v c = no_nan _ (omega arith)

pub float_from_bits-y : goal.float_from_bits-y
float_from_bits-y c = no_nan _ (omega arith)

pub returns : goal.returns
returns c =
    let const : (b : ℕ) → b ≤ 1026 * 2 ^ 52 → Within 3 (of_bits binary64 b) = λ b h. bits-within 3 b (lit≤ tt) h in
    newton-number 55 _ _ (bits_positive c.args.bits (omega arith) (omega arith))
    (bounded _ _ _ _ _ _ _ (bits-within 0 c.args.bits (lit≤ tt) (omega arith)) (bits-within 2 _ (lit≤ tt) (omega arith)) (const _ (lit≤ tt)) (const _ (lit≤ tt)) (const _ (lit≤ tt)) (const _ (lit≤ tt)) (const _ (lit≤ tt)))
