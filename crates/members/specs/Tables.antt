-- A number's place in a list, from a filled table: solver.rs, `columns`, and the table that stands for equations.rs's
-- `g.points.binary_search(&p).unwrap_or(0)`.
use Rattle.std.specs.Prelude.{ℕ, List, length, get_or, set, replicate}
use Rattle.loops.specs.Turns.{up_to}

-- `column[c] = Some(k)`, c the k-th of the list; past the table's end nothing happens
unfoldable pub number_at : List ℕ → ℕ → List ℕ → List ℕ
number_at cs k t = set t (get_or cs k 0) k

-- `for (k, &c) in free.iter().enumerate()`
unfoldable pub numbered_of : List ℕ → List ℕ → List ℕ
numbered_of cs t = up_to (length cs) 0 (number_at cs) t

-- a table of n places that holds d where nothing is numbered
abbrev pub table_of : ℕ → ℕ → List ℕ → List ℕ
table_of n d cs = numbered_of cs (replicate n d)

-- of the points ps, 0 where a point is not among them
abbrev pub places_of : List ℕ → List ℕ
places_of ps = table_of 40 0 ps

-- of the coordinates cs, 255 where the Rust has `None`
abbrev pub columns_of : List ℕ → List ℕ
columns_of cs = table_of 80 255 cs
