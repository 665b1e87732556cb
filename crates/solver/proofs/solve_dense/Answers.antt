-- A refusal, or what is carried out: then the heads of the two slices came back and were cleared. Assumes nothing.
use native.Mathlib.Nat.{mul-le-mul_right}
use lib.Seq.{length-take-le, take_at}
use mir.Syntax.{w64}
use mir.Val.{Fits}
use Prim.Native.Nat.{ℕ, ◌*◌, ◌≤◌}
use mathlib.Core.Bool.{true, false}
use mathlib.Core.List.{List, ◌++◌}
use mathlib.Core.Path.{◌≡◌, refl, sym, ap, ◌∙◌}
use native.Mathlib.Omega.{arith}
use lib.ListN.{length, take, drop, replicate}
use lib.Ieee.{Float}
use Rattle.std.specs.Prelude.{is_ok}
use Rattle.std.proofs.lemmas.Result.{err_from_is_err_and}
use Rattle.floats.specs.Ops.{zero⁺}
use Rattle.loops.specs.Numbers.{values}
use Rattle.loops.proofs.Parts.{refilled}
use Rattle.solver.specs.Promise.{Answered, Solves, Finds, meaning_of, found, meant, or_zeros, solved}
use Rattle.solver.specs.Reasons.{Reasoned, some, no_pivot, not_finite}
use Rattle.solver.proofs.Checking.{carried-out, none-changed}
use Rattle.solver.proofs.solve_dense.Goals as goal

square-fits : (n : ℕ) → n ≤ 80 → Fits w64 (n * n)
square-fits n h = record { fits = omega (arith, mul-le-mul_right n h) }

module _ (n : ℕ) where
  none-meant : (S : Reasoned (List Float)) (b' : List Float) → is_ok (found S) ≡ false → meaning_of n b' (found S) ≡ meant S
  none-meant (some y) b' t = cc
  none-meant (no_pivot c) b' t = refl
  none-meant not_finite b' t = refl

  none-zeros : (S : Reasoned (List Float)) → is_ok (found S) ≡ false → replicate n zero⁺ ≡ or_zeros n S
  none-zeros (some y) t = cc
  none-zeros (no_pivot c) t = refl
  none-zeros not_finite t = refl

module _ (n : ℕ) (a b : List Float) (h : n ≤ 80) (s : n * n ≤ length a) (t' : n ≤ length b) (a₁ y z : List Float)
    (same : length a₁ ≡ length (take (n * n) a)) (kept : length y ≡ length (take n b))
    (zeros : z ≡ replicate (length (take (n * n) (a₁ ++ drop (n * n) a))) zero⁺) where
  matrix-cleared : z ++ drop (n * n) (a₁ ++ drop (n * n) a) ≡ replicate (n * n) zero⁺ ++ drop (n * n) a
  matrix-cleared = refilled zero⁺ (n * n) a a₁ z s same zeros

  module _ (e : Answered) (f : Finds n (take (n * n) a) (take n b) y e) where
    with-answer : is_ok e ≡ true → Solves n a b (z ++ drop (n * n) (a₁ ++ drop (n * n) a)) (y ++ drop n b) e
    with-answer t = let q : some y ≡ solved n a b = f.right t in record {
      answer = carried-out n a b _ _ _ _ h s t' f.answer;
      meaning = carried-out n a b _ _ _ _ h s t' (ap (λ r. meaning_of n (y ++ drop n b) r) (f.answer ∙ ap found (sym q)) ∙ ap values (take_at y (drop n b) n (kept ∙ length-take-le n b t')) ∙ ap meant q);
      matrix = carried-out n a b _ _ _ _ h s t' matrix-cleared;
      right = carried-out n a b _ _ _ _ h s t' (ap (λ x. or_zeros n x ++ drop n b) q);
    }

    with_none : (x : List Float) → is_ok e ≡ false → x ≡ replicate (length (take n (y ++ drop n b))) zero⁺
        → Solves n a b (z ++ drop (n * n) (a₁ ++ drop (n * n) a)) (x ++ drop n (y ++ drop n b)) e
    with_none x t q = let none : is_ok (found (solved n a b)) ≡ false = rw f.answer at t in record {
      answer = carried-out n a b _ _ _ _ h s t' f.answer;
      meaning = carried-out n a b _ _ _ _ h s t' (ap (λ r. meaning_of n (x ++ drop n (y ++ drop n b)) r) f.answer ∙ none-meant n (solved n a b) _ none);
      matrix = carried-out n a b _ _ _ _ h s t' matrix-cleared;
      right = carried-out n a b _ _ _ _ h s t' (refilled zero⁺ n b y x t' kept q ∙ ap (λ x. x ++ drop n b) (none-zeros n (solved n a b) none));
    }

pub returns-in_err-check : goal.returns-in_err-check
returns-in_err-check c =
    let p = err_from_is_err_and c.from_residual.result c.from_residual.ensures.1 in
    rw (p.1, p.2) (none-changed _ _ _ _ (rw c.in_err-check.was at c.check.ensures.answer))

pub overflow_mul-nn : goal.overflow_mul-nn
overflow_mul-nn c = square-fits _ c.in_ok-check.ensures.fits.0

pub returns-then-is_err : goal.returns-then-is_err
returns-then-is_err c = with_none _ _ _ c.in_ok-check.ensures.fits.0 c.in_ok-check.ensures.fits.1 c.in_ok-check.ensures.fits.2 c.solve_square-solved.new.a c.solve_square-solved.new.b _ c.solve_square-solved.auto.a c.solve_square-solved.auto.b (c.fill.ensures.after (λ y h. h)) c.solve_square-solved.result c.solve_square-solved.ensures _ (rw c.if-is_err.true at c.is_err.ensures.negation) (c.fill-then-is_err.ensures.after (λ y h. h))

pub returns-else-is_err : goal.returns-else-is_err
returns-else-is_err c = with-answer _ _ _ c.in_ok-check.ensures.fits.0 c.in_ok-check.ensures.fits.1 c.in_ok-check.ensures.fits.2 c.solve_square-solved.new.a c.solve_square-solved.new.b _ c.solve_square-solved.auto.a c.solve_square-solved.auto.b (c.fill.ensures.after (λ y h. h)) c.solve_square-solved.result c.solve_square-solved.ensures (rw c.if-is_err.false at c.is_err.ensures.negation)
