-- What a read comes to. Of the bytes themselves the contract of a read says nothing. Assumes nothing.
use Rattle.std.specs.Prelude.{ℕ, min, Result, Ok, Err}
use Rattle.std.specs.declared.io.Error.{Error}

-- what a read of so many places at most comes to: an error is a read that failed, and that is no end
abbrev pub outcome_of : Result ℕ Error → ℕ → Result ℕ Error
outcome_of (Ok k) most = Ok (min k most)
outcome_of (Err e) most = Err e
