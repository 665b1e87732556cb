use mathlib.Core.Path.{sym, ap, subst, ◌∙◌}
use Rattle.rooms_c.specs.Code.{IsNamed, solved_code}
use Rattle.rooms_c.proofs.Named.{named}
use Rattle.rooms_c.proofs.matrices.rooms_solve_dense.Goals as goal

pub code-requires : goal.code-requires
code-requires c = subst IsNamed (sym c.solve_dense.ensures.answer ∙ c.in-Err.is) (named _ _ _)

pub returns-in-Ok : goal.returns-in-Ok
returns-in-Ok c = let e = c.solve_dense.ensures in record { answer = ap solved_code (sym c.in-Ok.is ∙ e.answer); matrix = e.matrix; right = e.right }

pub returns-in-Err : goal.returns-in-Err
returns-in-Err c = let e = c.solve_dense.ensures in record { answer = c.code.ensures ∙ ap solved_code (sym c.in-Err.is ∙ e.answer); matrix = e.matrix; right = e.right }
