-- Past half the slice there is the default, a NaN. Assumes nothing.
use Prim.Native.Nat.{ℕ, ◌+◌, ◌*◌, ◌≤◌}
use mathlib.Core.List.{List}
use mathlib.Core.Path.{◌≡◌, sym}
use native.Mathlib.Omega.{arith}
use lib.Ieee.{Float, nan, of_bits}
use lib.ListN.{length, get_or, get_or-eq_default}
use Rattle.level.proofs.sweeps.Axis.at.Goals as goal

past : (s : List Float) (p axis : ℕ) → length s ≤ p → nan ≡ get_or s (2 * p + axis) nan
past s p axis h = sym (get_or-eq_default s nan (omega arith))

pub returns-then-p-points : goal.returns-then-p-points
unfolding of_bits
returns-then-p-points c = c.get_or.ensures

pub returns-else-p-points : goal.returns-else-p-points
unfolding of_bits
returns-else-p-points c = past c.args.points.now c.args.p c.args.self.now.number c.if-p-points.false
