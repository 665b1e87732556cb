-- The table for a call on a bare matrix (specs/Promise.antt, `checked`), as the call's check answers it. Assumes nothing.
use Prim.Native.Nat.{ℕ, ◌*◌, ◌≤◌}
use mathlib.Core.Bool.{Bool, true, false, cond}
use mathlib.Core.List.{List}
use mathlib.Core.Path.{◌≡◌, refl}
use borrow.Author.Tests.{le-ltb}
use lib.Dec.{ltb}
use lib.ListN.{length}
use lib.Ieee.{Float}
use Rattle.std.specs.Prelude.{Result, Ok, Err}
use Rattle.loops.proofs.Picks.{pick_no}
use Rattle.slices.specs.declared.Refusal.{Refusal}
use Rattle.slices.specs.declared.Refusal.TheVariants.{TooMany, TooShort}
use Rattle.nullspace.specs.Promise.{Spans, checked}

abbrev Check : Type 0
Check = Result (Unit {0}) Refusal

module _ {A : Type 0} (rows n : ℕ) (m w out : List Float) where
  pub carried-out : (v three nine done : A) → rows ≤ 64 → n ≤ 80 → rows * n ≤ length m → rows * n ≤ length w → n * n ≤ length out → v ≡ done → v ≡ checked rows n m w out three nine done
  unfolding checked
  carried-out v three nine done r c a b h e =
      pick_no _ _ _ _ (le-ltb 64 rows r) (pick_no _ _ _ _ (le-ltb 80 n c) (pick_no _ _ _ _ (le-ltb _ _ a) (pick_no _ _ _ _ (le-ltb _ _ b) (pick_no _ _ _ _ (le-ltb _ _ h) e))))

  -- what the check's refusal picks
  of-refusal : Refusal → A → A → A
  of-refusal TooMany three nine = three
  of-refusal TooShort three nine = nine

  refused : (w' : Refusal) (three nine done : A) → Err w' ≡ checked {A = Check} rows n m w out (Err TooMany) (Err TooShort) (Ok tt) → of-refusal w' three nine ≡ checked rows n m w out three nine done
  unfolding checked of-refusal
  refused w' three nine done = by w' (ltb 64 rows) (ltb 80 n) (ltb (length m) (rows * n)) (ltb (length w) (rows * n)) (ltb (length out) (n * n))
    where
      by : (w' : Refusal) (p q r s t : Bool)
          → ◌≡◌ {A = Check} (Err w') (cond p (Err TooMany) (cond q (Err TooMany) (cond r (Err TooShort) (cond s (Err TooShort) (cond t (Err TooShort) (Ok tt))))))
          → of-refusal w' three nine ≡ cond p three (cond q three (cond r nine (cond s nine (cond t nine done))))
      by TooMany true q r s t e = refl
      by TooMany false true r s t e = refl
      by TooMany false false true s t e = cc
      by TooMany false false false true t e = cc
      by TooMany false false false false true e = cc
      by TooMany false false false false false e = cc
      by TooShort true q r s t e = cc
      by TooShort false true r s t e = cc
      by TooShort false false true s t e = refl
      by TooShort false false false true t e = refl
      by TooShort false false false false true e = refl
      by TooShort false false false false false e = cc

pub none-changed : (rows n : ℕ) (m w out : List Float) (r : Refusal) → Err r ≡ checked {A = Check} rows n m w out (Err TooMany) (Err TooShort) (Ok tt) → Spans rows n m w out w out (Err r)
unfolding of-refusal
none-changed rows n m w out TooMany e = record { answer = refused rows n m w out TooMany _ _ _ e; meaning = refused rows n m w out TooMany _ _ _ e; work = refused rows n m w out TooMany _ _ _ e; output = refused rows n m w out TooMany _ _ _ e }
none-changed rows n m w out TooShort e = record { answer = refused rows n m w out TooShort _ _ _ e; meaning = refused rows n m w out TooShort _ _ _ e; work = refused rows n m w out TooShort _ _ _ e; output = refused rows n m w out TooShort _ _ _ e }
