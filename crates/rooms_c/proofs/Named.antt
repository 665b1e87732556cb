-- A column that elimination names is one of 80. Assumes nothing.
use Prim.Native.Nat.{ℕ, ◌*◌, ◌≤◌}
use mathlib.Core.Bool.{Bool, true, false, cond}
use mathlib.Core.List.{List}
use mathlib.Core.Path.{◌≡◌, refl}
use native.Mathlib.Omega.{arith}
use borrow.Author.Tests.{ltb-false}
use lib.Dec.{ltb, leb}
use lib.Ieee.{Float}
use lib.ListN.{length, take}
use Rattle.solver.proofs.Reasons.{column-named}
use Rattle.solver.specs.Promise.{Answered, checked, found, solved, answer_of}
use Rattle.solver.specs.Reasons.{Reasoned, some, no_pivot, not_finite}
use Rattle.std.specs.Prelude.{Err}
use Rattle.slices.specs.declared.Refusal.TheVariants.{TooMany, TooShort}
use Rattle.solver.specs.declared.Unsolved.TheVariants.{Refused}
use Rattle.rooms_c.specs.Code.{IsNamed}

module _ (n : ℕ) (a b : List Float) where
  found-named : n ≤ 80 → (F : Reasoned (List Float)) → solved n a b ≡ F → IsNamed (found F)
  found-named h (some y) e = tt
  found-named h (no_pivot c) e = omega (arith, (column-named n (take (n * n) a) (take n b) c e).1)
  found-named h not_finite e = tt

  room-named : (s t : Bool) (e : Answered) → IsNamed e → IsNamed (cond s (cond t e (Err (Refused TooShort))) (Err (Refused TooShort)))
  room-named true true e h = h
  room-named true false e h = tt
  room-named false t e h = tt

  pub named : IsNamed (answer_of n a b)
  unfolding checked
  named = pick (ltb 80 n) refl
    where
      pick : (m : Bool) → ltb 80 n ≡ m → IsNamed (cond m (Err (Refused TooMany)) (cond (leb (n * n) (length a)) (cond (leb n (length b)) (found (solved n a b)) (Err (Refused TooShort))) (Err (Refused TooShort))))
      pick true e = tt
      pick false e = room-named (leb (n * n) (length a)) (leb n (length b)) (found (solved n a b)) (found-named (ltb-false 80 n e) (solved n a b) refl)
