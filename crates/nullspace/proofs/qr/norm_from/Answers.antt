use Prim.Native.Nat.{ℕ, ◌+◌, ◌-◌}
use mathlib.Core.Path.{◌≡◌}
use native.Mathlib.Omega.{arith}
use Rattle.nullspace.specs.Layout.{norm_at}
use Rattle.nullspace.proofs.qr.norm_from.Goals as goal

left : (n k s : ℕ) → s + n - (s + k) ≡ n - k
left n k s = omega arith

pub returns : goal.returns
unfolding norm_at
returns c = rw (c.sqrt.ensures, c.norm2.ensures, left)
