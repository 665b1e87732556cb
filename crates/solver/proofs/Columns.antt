-- The loop over the columns, turn by turn, as the code goes through it: a turn, a stop and the end (specs/Reasons.antt). Assumes nothing.
use Prim.Native.Nat.{ℕ, suc, ◌+◌, ◌-◌, ◌≤◌, ◌<◌}
use mathlib.Core.Path.{◌≡◌, refl, sym, ap, ◌∙◌}
use native.Mathlib.Omega.{arith}
use Rattle.std.specs.Prelude.{Ok, Err, is_ok}
use Rattle.loops.specs.Turns.{Try, go, stop}
use Rattle.solver.specs.declared.Unsolved.{Unsolved}
use Rattle.solver.specs.declared.Unsolved.TheVariants.{NoPivot}
use Rattle.solver.specs.Inside.{Reaches}
use Rattle.solver.specs.Promise.{Answered}
use Rattle.solver.specs.Reasons.{Reasoned, some, no_pivot, or_no_pivot, columns_from}
use Rattle.solver.specs.Steps.{Sys}

-- ---- a turn's answer

pub went : (t : Try Sys) (col : ℕ) (s : Sys) (r : Answered) (u : Unit {0}) → Reaches (or_no_pivot t col some) s r → r ≡ Ok u → t ≡ go s
went (go v) col s r u g h = let e : some s ≡ some v = g.left (ap is_ok h) in cc
went stop col s r u g h = let e : some s ≡ no_pivot (col + 1) = g.left (ap is_ok h) in cc

pub lacked : (t : Try Sys) (col : ℕ) (s : Sys) (r : Answered) (e : Unsolved) → Reaches (or_no_pivot t col some) s r → r ≡ Err e → (t ≡ stop) × (e ≡ NoPivot (col + 1))
lacked (go u) col s r e g h = cc (g.answer)
lacked stop col s r e g h = (refl, cc (g.answer))

-- ---- a turn, a stop and the end, as the code goes through them

module _ (f : ℕ → Sys → Try Sys) where
  from_next : (k n col : ℕ) (s s' : Sys) → n ≡ suc k → f col s ≡ go s' → columns_from f n col s ≡ columns_from f k (col + 1) s'
  unfolding columns_from
  from_next k n col s s' e g = rw (e, g)

  from-stop : (k n col : ℕ) (s : Sys) → n ≡ suc k → f col s ≡ stop → columns_from f n col s ≡ no_pivot (col + 1)
  unfolding columns_from
  from-stop k n col s e g = rw (e, g)

  from-done : (n col : ℕ) (s : Sys) → n ≡ 0 → columns_from f n col s ≡ some s
  unfolding columns_from
  from-done n col s e = rw e

  pub columns-next : (n col : ℕ) (s s' : Sys) (r : Answered) (u : Unit {0}) (R : Reasoned Sys) → col < n → Reaches (or_no_pivot (f col s) col some) s' r → r ≡ Ok u → columns_from f (n - col) col s ≡ R
      → columns_from f (n - (col + 1)) (col + 1) s' ≡ R
  columns-next n col s s' r u R h g t q = sym (from_next (n - (col + 1)) (n - col) col s s' (omega arith) (went (f col s) col s' r u g t)) ∙ q

  pub columns-stop : (n col : ℕ) (s s' t : Sys) (r : Answered) (e : Unsolved) (R : Reasoned Sys) → col < n → Reaches (or_no_pivot (f col s) col some) s' r → r ≡ Err e
      → columns_from f (n - col) col s ≡ R → Reaches R t (Err e)
  columns-stop n col s s' t r e R h g q w =
      let l = lacked (f col s) col s' r e g q in
      let i : R ≡ no_pivot (col + 1) = sym w ∙ from-stop (n - (col + 1)) (n - col) col s (omega arith) l.0 in
      rw (i, l.1) record { answer = refl; left = λ t. cc }

  pub columns-done : (n col : ℕ) (s : Sys) (R : Reasoned Sys) → n ≤ col → columns_from f (n - col) col s ≡ R → Reaches R s (Ok tt)
  columns-done n col s R h r = rw (← r, from-done (n - col) col s (omega arith)) record { answer = refl; left = λ t. refl }
