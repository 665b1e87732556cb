-- Assumes nothing.
use Prim.Native.Nat.{ℕ, ◌+◌, ◌≤◌}
use mathlib.Core.Path.{◌≡◌}
use native.Mathlib.Omega.{arith}
use mir.Syntax.{w64}
use mir.Val.{Fits}
use Rattle.std.specs.Prelude.{Err}
use Rattle.solver.specs.declared.Unsolved.{Unsolved}
use Rattle.solver.specs.declared.Unsolved.TheVariants.{NoPivot}
use Rattle.rooms_c.specs.Code.{IsNamed}
use Rattle.rooms_c.proofs.matrices.code.Goals as goal

column_fits : (why : Unsolved) (column : ℕ) → why ≡ NoPivot column → IsNamed (Err why) → Fits w64 (256 + column)
column_fits why column q h = let few : column ≤ 80 = rw q at h in record { fits = omega arith }

pub overflow_add-result : goal.overflow_add-result
overflow_add-result c = column_fits _ _ c.in-NoPivot.is c.requires
