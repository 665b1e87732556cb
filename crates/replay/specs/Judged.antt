-- How a recorded reply compares with what its text is answered here. Two lists of bytes are the same exactly when they are equal:
-- `same-sound`, `same-itself` (proofs/Same.antt).
use Rattle.std.specs.Prelude.{Bool, true, false, ◌&&◌, List, [], ◌∷◌, ℕ, eqb, Float, replicate}
use Rattle.floats.specs.Ops.{zero⁺}
use Rattle.run.specs.Promise.{reply_to}

-- a work area
abbrev pub area : List Float
area = replicate 6400 zero⁺

-- the reply to a job's text
unfoldable pub answered : List ℕ → List ℕ
answered text = reply_to area area area text

unfoldable pub same_bytes : List ℕ → List ℕ → Bool
same_bytes [] [] = true
same_bytes [] (y ∷ b) = false
same_bytes (x ∷ a) [] = false
same_bytes (x ∷ a) (y ∷ b) = eqb x y && same_bytes a b
