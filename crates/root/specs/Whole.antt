-- The root over whole numbers, in which the code works. Definitions only.
use Rattle.std.specs.Prelude.{ℕ, ◌+◌, ◌-◌, ◌*◌, ◌^◌, ◌<◌}

-- the point halfway below r, doubled and squared, is below t * 2 ^ 46
abbrev pub Over : ℕ → ℕ → Type 0
Over t r = (2 * r - 1) * (2 * r - 1) < t * 2 ^ 46

-- the point halfway above it is above
abbrev pub Under : ℕ → ℕ → Type 0
Under t r = t * 2 ^ 46 < (2 * r + 1) * (2 * r + 1)

-- so r is the root of t * 2 ^ 44, rounded
abbrev pub Root : ℕ → ℕ → Type 0
Root t r = Over t r × Under t r
