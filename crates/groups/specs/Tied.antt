-- equations.rs, `tied_points`: whether an equation touches a point. `t k` are the points that equation k touches.
use Rattle.std.specs.Prelude.{ℕ, Bool, true, false, List, set, replicate}
use Rattle.loops.specs.Turns.{up_to, fold}

unfoldable pub tie_to : List Bool → ℕ → List Bool
tie_to s p = set s p true

-- the points of one equation
unfoldable pub tie_all : List ℕ → List Bool → List Bool
tie_all pts s = fold tie_to s pts

-- the points of the first n equations
unfoldable pub tied_in : (ℕ → List ℕ) → ℕ → List Bool → List Bool
tied_in t n s = up_to n 0 (λ k. tie_all (t k)) s

abbrev pub tied_of : (ℕ → List ℕ) → ℕ → List Bool
tied_of t n = tied_in t n (replicate 40 false)
