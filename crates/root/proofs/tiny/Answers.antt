-- `root::tiny` meets its contract: the number brought up is within a `u64`, and its root is that of b. Assumes nothing.
use mathlib.Core.Path.{◌≡◌, ap, ◌∙◌}
use Prim.Native.Nat.{ℕ, ◌+◌, ◌-◌, ◌*◌, ◌%◌, ◌^◌, ◌<◌}
use native.Mathlib.Nat.{mod-eq_of_lt}
use native.Mathlib.Omega.{arith}
use lib.Count.{count_leading_zeros}
use lib.Ieee.{Float, binary64, of_bits}
use Rattle.root.specs.Root.{root_bits}
use Rattle.root.proofs.Normal.{raised, zeros-bounds, raised-bounds, raised_is}
use Rattle.root.proofs.tiny.Goals as goal

-- the shift loses nothing
whole : (b : ℕ) → 0 < b → b < 2 ^ 52 → raised b (count_leading_zeros 64 b) % 2 ^ 64 ≡ raised b (count_leading_zeros 64 b)
whole b h t = mod-eq_of_lt (omega (arith, raised-bounds b h t))

pub overflow_sub-z : goal.overflow_sub-z
overflow_sub-z c = omega (arith, zeros-bounds c.args.b c.requires.0 c.requires.1)

pub root-requires : goal.root-requires
root-requires c = omega (arith, zeros-bounds c.args.b c.requires.0 c.requires.1, whole c.args.b c.requires.0 c.requires.1, raised-bounds c.args.b c.requires.0 c.requires.1)

pub returns : goal.returns
returns c =
    let b = c.args.b in
    let root : ℕ → Float = λ y. of_bits binary64 (root_bits y) in
    c.root.ensures
    ∙ ap (λ (m : ℕ). root (m * 2 ^ (1033 - count_leading_zeros 64 b + 54))) (whole c.args.b c.requires.0 c.requires.1)
    ∙ ap root (raised_is b c.requires.0 c.requires.1)
