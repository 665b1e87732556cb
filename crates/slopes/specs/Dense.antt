-- Dense rows one after another in a lent slice: the Jacobian (solver.rs, `dense`) of a list of equations. A store past the end of
-- the slice does nothing.
use Rattle.std.specs.Prelude.{ℕ, ◌+◌, ◌*◌, cond, ◌||◌, List, ltb, Float, length, get_or, set}
use Rattle.std.specs.Float.{nan}
use Rattle.floats.specs.Ops.{◌⊕◌, zero⁺}
use Rattle.loops.specs.Turns.{fold, up_to}
use Rattle.sketch.specs.declared.Active.{Active}
use Rattle.sketch.specs.declared.FreeNo.{FreeNo}
use Rattle.sketch.specs.declared.Line.{Line}
use Rattle.rows.specs.Column.{Laid, laid, rows_at}
use Rattle.rows.specs.Entries.{Row}
use Rattle.rows.specs.Located.{local_of}
use Rattle.rows.specs.declared.Entry.{Entry}

-- ---- the dense rows, of n free coordinates each

-- the position of coordinate c among the free ones, from a filled table; a number not below n is none
abbrev pub free_of : List ℕ → ℕ → FreeNo
free_of columns c = record { 0 = get_or columns c 255 }

-- `j[i * nf + k] += d`, in the row from `base` on
unfoldable pub add_at : ℕ → ℕ → FreeNo → Float → List Float → List Float
add_at n base k d j = cond (ltb k.0 n) (set j (base + k.0) (get_or j (base + k.0) nan ⊕ d)) j

-- a row starts from +0.0
unfoldable pub clear_at : ℕ → ℕ → List Float → List Float
clear_at base c j = set j (base + c) zero⁺

unfoldable pub cleared_of : ℕ → ℕ → List Float → List Float
cleared_of n base j = up_to n 0 (clear_at base) j

module _ (places columns : List ℕ) (n : ℕ) where
  -- the entry's two coordinates, x first; that of a fixed point is left out
  unfoldable pub add_entry : ℕ → List Float → Entry → List Float
  add_entry base j e =
      let k = local_of places e.point in
      add_at n base (free_of columns (2 * k + 1)) e.d.y (add_at n base (free_of columns (2 * k)) e.d.x j)

  unfoldable pub row_into : ℕ → List Float → List Entry → List Float
  row_into base j es = fold (add_entry base) (cleared_of n base j) es

  unfoldable pub next_row : Laid → Row → Laid
  next_row (laid i j) row = laid (i + 1) (row_into (i * n) j row.entries)

-- ---- a list of equations by their numbers

module _ (es : List Active) (ls : List Line) (places : List ℕ) (x : List Float) (columns : List ℕ) (n : ℕ) where
  unfoldable pub rows_next : Laid → ℕ → Laid
  rows_next s k = fold (next_row places columns n) s (rows_at es ls places x k)

  -- more than 40 equations or 80 free coordinates are refused, and nothing is stored
  unfoldable pub jacobian_of : List ℕ → List Float → Laid
  jacobian_of chosen j = cond (ltb 40 (length chosen) || ltb 80 n) (laid 0 j) (fold rows_next (laid 0 j) chosen)
