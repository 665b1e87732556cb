-- Assumes nothing.
use Rattle.std.proofs.Common.{◌<◌, length, refl, sym, ◌∙◌, arith, length-set}
use Rattle.std.proofs.lemmas.List.{drop-set-lt}
use Rattle.std.proofs.lemmas.Result.{err_from_is_err_and}
use Rattle.text.proofs.Filling.{items-next, items-stop, items-done, items-start}
use Rattle.text.proofs.items.items.Goals as goal

pub loop-i-init : goal.loop-i-init
loop-i-init g c = record { in_range = omega arith; as_many = refl; read = items-start _ _ _ _ _; kept = refl }

pub returns-in_err-item-clause-read : goal.returns-in_err-item-clause-read
returns-in_err-item-clause-read g c =
    let p = err_from_is_err_and c.from_residual.result c.from_residual.ensures.1 in
    rw (p.1, p.2) (items-stop _ _ _ _ _ _ _ _ c.loop-i-test.true (sym c.line.ensures ∙ c.in_err-item.was) c.loop-i.invariant.read)

pub loop-i-preserved : goal.loop-i-preserved
loop-i-preserved g c =
    let i = c.loop-i.invariant in
    let h : c.loop-i.i < length c.loop-i.places = omega (arith, i.as_many, c.requires, c.loop-i-test.true) in
    record {
      in_range = omega arith;
      as_many = rw length-set i.as_many;
      read = items-next _ _ _ _ _ _ _ _ _ h c.loop-i-test.true (sym c.line.ensures ∙ c.in_ok-item.was) i.read;
      kept = drop-set-lt _ _ _ _ c.loop-i-test.true ∙ i.kept;
    }

pub returns-clause-read : goal.returns-clause-read
returns-clause-read g c = items-done _ _ _ _ _ _ _ (omega arith) c.loop-i.invariant.in_range c.loop-i.invariant.read
