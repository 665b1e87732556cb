-- How the code lays an equation's rows: from a place in the lent slice on, one after another; and how many they are.
use Rattle.std.specs.Prelude.{ℕ, ◌+◌, List, [], ◌∷◌, Float, length}
use Rattle.loops.specs.Turns.{fold}
use Rattle.rows.specs.Column.{Laid, laid}
use Rattle.rows.specs.Entries.{Row}
use Rattle.rows.specs.declared.Entry.{Entry}
use Rattle.slopes.specs.Dense.{add_entry, cleared_of, row_into}
use Rattle.slopes.specs.declared.dense.Dense.{Dense}

-- what a row's entry, and the start of a row, make of the lent slice
abbrev pub pushed : Dense → List Float → Entry → List Float
pushed to = add_entry to.points.places.now to.columns.now to.n to.base

abbrev pub cleared : Dense → List Float → List Float
cleared to = cleared_of to.n to.base

-- entries one after another
abbrev pub added : Dense → List Float → List Entry → List Float
added to j es = fold (pushed to) j es

module _ (places columns : List ℕ) (n : ℕ) where
  abbrev pub rows_from : ℕ → List Float → List Row → List Float
  rows_from base j [] = j
  rows_from base j (row ∷ rows) = rows_from (base + n) (row_into places columns n base j row.entries) rows

abbrev pub rows_into : Dense → List Float → List Row → Laid
rows_into to j rows = laid (length rows) (rows_from to.points.places.now to.columns.now to.n to.base j rows)
