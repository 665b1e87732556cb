-- A square taken by halves of 23 bits, and what a test of it says of the whole square. Assumes nothing.
use mathlib.Core.Path.{◌≡◌, ap}
use Prim.Native.Nat.{ℕ, ◌+◌, ◌*◌, ◌/◌, ◌%◌, ◌^◌, ◌≤◌, ◌<◌}
use native.Mathlib.Omega.{arith}

-- the two halves, high and low
abbrev hi : ℕ → ℕ
hi z = z / 8388608

abbrev lo : ℕ → ℕ
lo z = z % 8388608

pub by-halves : (z : ℕ) → hi z * hi z + (2 * hi z * lo z + lo z * lo z / 8388608) / 8388608 ≡ z * z / 2 ^ 46
by-halves z =
    let e : z ≡ hi z * 8388608 + lo z = omega arith in
    let s : z * z ≡ (hi z * 8388608 + lo z) * (hi z * 8388608 + lo z) = ap (λ (x : ℕ). x * x) e in
    omega arith

pub square-over : (z t f : ℕ) → f ≡ z * z / 2 ^ 46 → f < t → z * z < t * 2 ^ 46
square-over z t f e h = omega arith

pub square-under : (z t f : ℕ) → f ≡ z * z / 2 ^ 46 → t ≤ f → t * 2 ^ 46 ≤ z * z
square-under z t f e h = omega arith
