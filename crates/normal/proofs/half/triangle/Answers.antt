-- Assumes nothing.
use Prim.Native.Nat.{◌+◌, ◌≤◌}
use mathlib.Core.Path.{refl}
use native.Mathlib.Nat.{mul-le-mul}
use native.Mathlib.Omega.{arith}
use borrow.Author.Rules.{rules}
use Rattle.normal.specs.Half.{triangle}
use Rattle.normal.proofs.half.triangle.Goals as goal

pub overflow_mul-result : goal.overflow_mul-result
overflow_mul-result c =
    let few : c.args.i ≤ 80 = search rules in
    let more : c.args.i + 1 ≤ 81 = omega (arith, few) in
    record { fits = omega (arith, mul-le-mul few more) }

pub returns : goal.returns
unfolding triangle
returns c = refl
