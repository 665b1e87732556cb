-- What the promise of a private function is said by.
use Rattle.std.specs.Prelude.{Float}
use Rattle.floats.specs.Ops.{zero⁺}
use Rattle.rows.specs.declared.answer.Values.{Values}

-- the first residual, of those that the code hands out, and +0.0 where there is none
abbrev pub first_of : Values → Float
first_of Values.None = zero⁺
first_of (Values.One v) = v
first_of (Values.Two v w) = v
