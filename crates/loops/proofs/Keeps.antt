-- What every turn of a counting loop keeps, the loop keeps. Assumes nothing.
use Prim.Native.Nat.{ℕ, zero, suc, ◌+◌, ◌-◌, ◌≤◌, ◌<◌}
use mathlib.Core.Path.{◌≡◌, subst}
use native.Mathlib.Omega.{arith}
use Rattle.loops.specs.Turns.{turns, up_to}

module _ {S : Type 0} (P : ℕ → S → Type 0) (f : ℕ → S → S) (hi : ℕ) (step : (i : ℕ) (s : S) → i < hi → P i s → P (i + 1) (f i s)) where
  turns-keep : (k i : ℕ) (s : S) → i + k ≡ hi → P i s → P hi (turns k i f s)
  unfolding turns
  turns-keep zero i s e p = let h : i ≡ hi = omega arith in subst (λ n. P n s) h p
  turns-keep (suc k) i s e p = turns-keep k (i + 1) (f i s) (omega arith) (step i s (omega arith) p)

  pub up_to-keeps : (lo : ℕ) (s : S) → lo ≤ hi → P lo s → P hi (up_to hi lo f s)
  unfolding up_to
  up_to-keeps lo s h p = turns-keep (hi - lo) lo s (omega arith) p
