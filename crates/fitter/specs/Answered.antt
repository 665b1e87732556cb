-- The reply that the program has for a text. Assumes nothing.
use Rattle.std.specs.Prelude.{ℕ, List, Float, replicate}
use Rattle.floats.specs.Ops.{zero⁺}
use Rattle.run.specs.Promise.{reply_to}

-- a work area
abbrev pub area : List Float
area = replicate 6400 zero⁺

unfoldable pub answered : List ℕ → List ℕ
answered text = reply_to area area area text
