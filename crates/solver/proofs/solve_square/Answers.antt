-- A column without a pivot stops the whole, or the system is solved from the last row up and looked through; by the lesser exchange that
-- comes to what the definition finds. Assumes nothing.
use Prim.Native.Nat.{ℕ}
use mathlib.Core.Bool.{Bool, true, false}
use mathlib.Core.List.{List}
use mathlib.Core.Path.{◌≡◌, sym, ap, ◌∙◌}
use lib.Ieee.{Float}
use lib.Ieee.Scale.{finite}
use Rattle.std.specs.Prelude.{Ok, Err, is_ok}
use Rattle.std.proofs.lemmas.Result.{err_from_is_err_and}
use Rattle.loops.specs.Turns.{every}
use Rattle.solver.specs.declared.Unsolved.{Unsolved}
use Rattle.solver.specs.declared.Unsolved.TheVariants.{NotFinite}
use Rattle.solver.specs.Inside.{Reaches}
use Rattle.solver.specs.Lesser.{lesser_eliminated}
use Rattle.solver.specs.Promise.{Answered, found, Finds}
use Rattle.solver.specs.Reasons.{Reasoned, some, no_pivot, not_finite, on_some, if_finite, reasoned_of}
use Rattle.solver.specs.Steps.{Sys, sys, back_of}
use Rattle.solver.proofs.Lesser.{same-elimination}
use Rattle.solver.proofs.solve_square.Goals as goal

module _ (n : ℕ) (a b : List Float) (s : Sys) (r : Answered) (done : Reaches (lesser_eliminated n (sys a b)) s r) where
  none : (y : List Float) (e : Unsolved) → r ≡ Err e → Finds n a b y (Err e)
  none y e h = record { answer = by (lesser_eliminated n (sys a b)) (sym h ∙ done.answer) ∙ ap found (same-elimination n a b); right = λ t. cc }
    where
      by : (x : Reasoned Sys) → Err e ≡ found x → Err e ≡ found (on_some x (λ s. if_finite (back_of n s)))
      by (some s) q = cc
      by (no_pivot c) q = q
      by not_finite q = q

  module _ (y : List Float) (u : Unit {0}) (h : r ≡ Ok u) (back : y ≡ back_of n s) (t : Bool) (test : t ≡ every finite y) where
    looked-through : if_finite y ≡ reasoned_of n a b
    looked-through = ap if_finite back ∙ ap (λ x. on_some x (λ s. if_finite (back_of n s))) (done.left (ap is_ok h)) ∙ same-elimination n a b

    all-finite : t ≡ true → Finds n a b y (Ok tt)
    unfolding if_finite
    all-finite q = let e : some y ≡ reasoned_of n a b = rw (sym test ∙ q) at looked-through in record { answer = ap found e; right = λ t. e }

    not-finite : t ≡ false → Finds n a b y (Err NotFinite)
    unfolding if_finite
    not-finite q = let e : not_finite ≡ reasoned_of n a b = rw (sym test ∙ q) at looked-through in record { answer = ap found e; right = λ t. cc }

pub returns-in_err-eliminate : goal.returns-in_err-eliminate
returns-in_err-eliminate c =
    let p = err_from_is_err_and c.from_residual.result c.from_residual.ensures.1 in
    rw (p.1, p.2) (none _ _ _ _ _ c.eliminate.ensures _ _ c.in_err-eliminate.was)

pub returns-then-all_finite : goal.returns-then-all_finite
returns-then-all_finite c = all-finite _ _ _ _ _ c.eliminate.ensures _ _ c.in_ok-eliminate.was c.substitute.ensures _ c.all_finite.ensures c.if-all_finite.true

pub returns-else-all_finite : goal.returns-else-all_finite
returns-else-all_finite c = not-finite _ _ _ _ _ c.eliminate.ensures _ _ c.in_ok-eliminate.was c.substitute.ensures _ c.all_finite.ensures c.if-all_finite.false
