-- The table for a call on a bare matrix (specs/Promise.antt, `checked`), as the call's check answers it. Assumes nothing.
use Prim.Native.Nat.{ℕ, ◌*◌, ◌≤◌}
use mathlib.Core.Bool.{Bool, true, false, cond}
use mathlib.Core.List.{List}
use mathlib.Core.Path.{◌≡◌, refl}
use borrow.Author.Tests.{le-ltb, le-leb}
use lib.Dec.{ltb, leb}
use lib.ListN.{length}
use lib.Ieee.{Float}
use Rattle.std.specs.Prelude.{Result, Ok, Err}
use Rattle.loops.proofs.Picks.{pick_yes, pick_no}
use Rattle.slices.specs.declared.Refusal.{Refusal}
use Rattle.slices.specs.declared.Refusal.TheVariants.{TooMany, TooShort}
use Rattle.solver.specs.declared.Unsolved.TheVariants.{Refused}
use Rattle.solver.specs.Promise.{Solves, checked}

abbrev Check : Type 0
Check = Result (Unit {0}) Refusal

module _ {A : Type 0} (n : ℕ) (a b : List Float) where
  pub carried-out : (v three nine done : A) → n ≤ 80 → n * n ≤ length a → n ≤ length b → v ≡ done → v ≡ checked n a b three nine done
  unfolding checked
  carried-out v three nine done h s t e = pick_no _ _ _ _ (le-ltb 80 n h) (pick_yes _ _ _ _ (le-leb (n * n) (length a) s) (pick_yes _ _ _ _ (le-leb n (length b) t) e))

  -- what the check's refusal picks
  of-refusal : Refusal → A → A → A
  of-refusal TooMany three nine = three
  of-refusal TooShort three nine = nine

  refused : (w : Refusal) (three nine done : A) → Err w ≡ checked {A = Check} n a b (Err TooMany) (Err TooShort) (Ok tt) → of-refusal w three nine ≡ checked n a b three nine done
  unfolding checked of-refusal
  refused w three nine done = by w (ltb 80 n) (leb (n * n) (length a)) (leb n (length b))
    where
      by : (w : Refusal) (p q r : Bool) → ◌≡◌ {A = Check} (Err w) (cond p (Err TooMany) (cond q (cond r (Ok tt) (Err TooShort)) (Err TooShort))) → of-refusal w three nine ≡ cond p three (cond q (cond r done nine) nine)
      by TooMany true q r e = refl
      by TooMany false true true e = cc
      by TooMany false true false e = cc
      by TooMany false false r e = cc
      by TooShort true q r e = cc
      by TooShort false true true e = cc
      by TooShort false true false e = refl
      by TooShort false false r e = refl

pub none-changed : (n : ℕ) (a b : List Float) (w : Refusal) → Err w ≡ checked {A = Check} n a b (Err TooMany) (Err TooShort) (Ok tt) → Solves n a b a b (Err (Refused w))
unfolding of-refusal
none-changed n a b TooMany e = record { answer = refused n a b TooMany _ _ _ e; meaning = refused n a b TooMany _ _ _ e; matrix = refused n a b TooMany _ _ _ e; right = refused n a b TooMany _ _ _ e }
none-changed n a b TooShort e = record { answer = refused n a b TooShort _ _ _ e; meaning = refused n a b TooShort _ _ _ e; matrix = refused n a b TooShort _ _ _ e; right = refused n a b TooShort _ _ _ e }
