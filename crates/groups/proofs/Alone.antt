-- An array whose element at each place is the place's number is `alone`, however it was made: by calls that answer what they
-- are given. Assumes nothing.
use Prim.Native.Nat.{ℕ, zero, suc, ◌+◌, ◌≤◌, ◌<◌}
use mathlib.Core.List.{List}
use mathlib.Core.Path.{◌≡◌, sym, ◌∙◌}
use native.Mathlib.Decide.{ℕ_discrete}
use native.Mathlib.Omega.{arith}
use denote.Param.Members.{Mut, Called}
use lib.ListN.{get_or}
use Rattle.loops.proofs.Parts.{any-default}
use Rattle.std.proofs.lemmas.List.{ext_get_or}
use Rattle.std.specs.Array.{IsFromFnResultFrom, IsFromFnResult}
use Rattle.groups.specs.Parents.{alone}
use Rattle.groups.proofs.Forest.{alone-own}

module _ {F : Type 0} (g : Mut F (ℕ × Unit {0}) ℕ) (same : (f : F) (i y : ℕ) (q : F) → Called g f (i, tt) y q → y ≡ i) where
  numbered : (n : ℕ) (ys : List ℕ) (f : F) (i k d : ℕ) → IsFromFnResultFrom g f ys i n → i ≤ k → k < i + n → get_or ys k d ≡ k
  numbered zero ys f i k d h l m = absurd (omega arith)
  numbered (suc n) ys f i k d h l m = go (ℕ_discrete i k) (λ r. numbered n ys h.0 (i + 1) k d h.4 r (omega arith))
    where
      go : Dec (i ≡ k) → (i + 1 ≤ k → get_or ys k d ≡ k) → get_or ys k d ≡ k
      go (yes e) r = rw (← e) (h.2.1 d ∙ same f i h.1 h.0 h.3)
      go (no e) r = r (omega arith)

  pub alone-made : (f : F) (ys : List ℕ) → IsFromFnResult g f ys 40 → ys ≡ alone
  alone-made f ys h =
      ext_get_or 0 ys alone (h.long ∙ sym alone-own.0)
      (λ k l.
      let a : get_or alone k 0 ≡ k = any-default alone k 0 k (omega (arith, alone-own.0, h.long)) ∙ alone-own.1 k in
      numbered 40 ys f 0 k 0 h.each (omega arith) (omega (arith, h.long)) ∙ sym a)
