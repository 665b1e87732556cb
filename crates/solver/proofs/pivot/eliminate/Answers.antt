use mathlib.Core.Path.{refl}
use native.Mathlib.Nat.{sub-zero}
use borrow.Author.Rules.{rules}
use Rattle.std.proofs.lemmas.Result.{err_from_is_err_and}
use Rattle.solver.specs.Lesser.{lesser_eliminated}
use Rattle.solver.proofs.Columns.{columns-next, columns-stop, columns-done}
use Rattle.solver.specs.Steps.{sys}
use Rattle.solver.proofs.pivot.eliminate.Goals as goal

pub loop-col-init : goal.loop-col-init
unfolding lesser_eliminated
loop-col-init c = (search rules, (refl, refl), rw (sub-zero, c.scale-s.ensures))

pub returns-in_err-column : goal.returns-in_err-column
returns-in_err-column c =
    let p = err_from_is_err_and c.from_residual.result c.from_residual.ensures.1 in
    rw (p.1, p.2) (columns-stop _ _ _ _ _ (sys c.column.new.a c.column.new.b) c.column.result _ _ c.loop-col-test.true c.column.ensures c.in_err-column.was c.loop-col.invariant.2)

pub loop-col-preserved : goal.loop-col-preserved
loop-col-preserved c = (search rules, (search rules, search rules), columns-next _ _ _ _ _ c.column.result _ _ c.loop-col-test.true c.column.ensures c.in_ok-column.was c.loop-col.invariant.2)

pub returns : goal.returns
returns c = search (columns-done, rules)
