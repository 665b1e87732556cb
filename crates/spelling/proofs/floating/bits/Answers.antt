-- Assumes nothing.
use Rattle.std.proofs.Common.{refl, sym, ◌∙◌, arith}
use Rattle.std.proofs.lemmas.Result.{err_from_is_err_and}
use Rattle.spelling.specs.Floating.{digits_at}
use Rattle.spelling.proofs.Digits.{digit-more, digit-not, digits-fit}
use Rattle.spelling.proofs.floating.bits.Goals as goal

pub loop-i-init : goal.loop-i-init
unfolding digits_at
loop-i-init c = record { read = refl; small = omega arith }

pub returns-in_err-d : goal.returns-in_err-d
returns-in_err-d c =
    let p = err_from_is_err_and c.from_residual.result c.from_residual.ensures.1 in
    rw (p.1, p.2) (sym (digit-not _ _ _ _ _ c.loop-i.invariant.read _ (omega arith) (sym c.hex.ensures.value ∙ c.in_err-d.was)))

pub overflow_mul-bits : goal.overflow_mul-bits
overflow_mul-bits c = omega (arith, digits-fit c.loop-i._i c.loop-i.bits c.in_ok-d.d (omega arith) c.loop-i.invariant.small c.in_ok-d.ensures.small)

pub overflow_add-bits : goal.overflow_add-bits
overflow_add-bits c = omega (arith, digits-fit c.loop-i._i c.loop-i.bits c.in_ok-d.d (omega arith) c.loop-i.invariant.small c.in_ok-d.ensures.small)

pub loop-i-preserved : goal.loop-i-preserved
loop-i-preserved c = record {
  read = digit-more _ _ _ _ _ c.loop-i.invariant.read _ _ (sym c.hex.ensures.value ∙ c.in_ok-d.was);
  small = (digits-fit _ _ _ (omega arith) c.loop-i.invariant.small c.in_ok-d.ensures.small).1;
}
