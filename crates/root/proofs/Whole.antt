-- Laws of the root over whole numbers: no tie, its bounds, its neighbours, and that every number has one. Assumes nothing.
use mathlib.Core.Path.{◌≡◌, subst}
use Prim.Native.Nat.{ℕ, zero, suc, ◌+◌, ◌-◌, ◌*◌, ◌^◌, ◌≤◌, ◌<◌}
use native.Mathlib.Nat.{lt_of_not-le, mul-le-mul}
use native.Mathlib.Decide.{dec_lt}
use native.Mathlib.Omega.{arith}
use lib.Dec.{lit<}
use Rattle.root.specs.Whole.{Over, Under, Root}

-- no tie occurs, as the square of an odd number is odd
pub no_tie : (t r : ℕ) → t * 2 ^ 46 ≤ (2 * r + 1) * (2 * r + 1) → Under t r
no_tie t r h = omega arith

square-lt : (a b : ℕ) → a * a < b * b → a < b
square-lt a b h = lt_of_not-le (λ (g : b ≤ a). no (b * b) (a * a) (mul-le-mul g g) h)
  where
    no : (m n : ℕ) → m ≤ n → n < m → ⊥
    no m n g h = omega arith

-- t is at most 2 ^ 9 times an m below 2 ^ 53, and then the root does not reach the next exponent
pub root-small : (t r : ℕ) → t ≤ 2 ^ 62 - 2 ^ 9 → Over t r → r < 2 ^ 53
root-small t r h o =
    let s : 2 * r - 1 < 2 ^ 54 - 1 = square-lt (2 * r - 1) (2 ^ 54 - 1) (omega arith) in
    omega arith

pub under-large : (t r : ℕ) → 2 ^ 60 ≤ t → Under t r → 2 ^ 52 ≤ r
under-large t r h u =
    let s : 2 ^ 53 < 2 * r + 1 = square-lt (2 ^ 53) (2 * r + 1) (omega arith) in
    omega arith

-- a halfway point stands above one number and below the next
pub up : (n r : ℕ) → (2 * r + 1) * (2 * r + 1) < n → (2 * (r + 1) - 1) * (2 * (r + 1) - 1) < n
up n r h =
    let e : 2 * r + 1 ≡ 2 * (r + 1) - 1 = omega arith in
    subst (λ (z : ℕ). z * z < n) e h

-- every n above 0 stands between the squares of two halfway points
between : (n : ℕ) → (r : ℕ) × ((2 * r - 1) * (2 * r - 1) < suc n) × (suc n ≤ (2 * r + 1) * (2 * r + 1))
between zero = (0, lit< tt, omega arith)
between (suc n) =
    let p = between n in
    let r = p.0 in
    elim (dec_lt (suc n) ((2 * r + 1) * (2 * r + 1))) [
      | yes l ↦ (r, omega (arith, p.1), l)
      | no l ↦ (r + 1, up (suc (suc n)) r (omega arith), omega (arith, p.2))
    ]

pub root-exists : (t : ℕ) → 0 < t → (r : ℕ) × Root t r
root-exists t h =
    let n = t * 2 ^ 46 - 1 in
    let e : suc n ≡ t * 2 ^ 46 = omega arith in
    let p = between n in
    let r = p.0 in
    (r, (subst (λ (y : ℕ). (2 * r - 1) * (2 * r - 1) < y) e p.1, no_tie t r (subst (λ (y : ℕ). y ≤ (2 * r + 1) * (2 * r + 1)) e p.2)))
