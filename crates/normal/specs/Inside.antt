-- How the half of the product is written, one number after another.
use Rattle.std.specs.Prelude.{ℕ, ◌+◌, List, Float, set}
use Rattle.loops.specs.Turns.{up_to}
use Rattle.normal.specs.Half.{half_place}
use Rattle.normal.specs.Normal.{rows_product}

-- h[place(i, k)] = the product of rows k and i
unfoldable pub put_one : ℕ → List Float → ℕ → ℕ → List Float → List Float
put_one nf j i k h = set h (half_place i k) (rows_product nf j k i)

-- for k in 0..i + 1
unfoldable pub put_row : ℕ → List Float → ℕ → List Float → List Float
put_row nf j i h = up_to (i + 1) 0 (put_one nf j i) h
