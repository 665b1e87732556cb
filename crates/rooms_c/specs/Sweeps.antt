-- A sweep once more over what the sweeps before it left.
use Rattle.std.specs.Prelude.{List, ℕ, Float}
use Rattle.rows.specs.Column.{Laid, laid_in, column_of}
use Rattle.sketch.specs.declared.Active.{Active}
use Rattle.sketch.specs.declared.Line.{Line}
use Rattle.slopes.specs.Dense.{jacobian_of}

module _ (es : List Active) (ls : List Line) (chosen places : List ℕ) where
  unfoldable pub column_again : List Float → ℕ → Laid → Laid
  column_again x i s = column_of es ls places x chosen (laid_in s)

  unfoldable pub jacobian_again : List ℕ → ℕ → List Float → ℕ → Laid → Laid
  jacobian_again columns free x i s = jacobian_of es ls places x columns free chosen (laid_in s)
