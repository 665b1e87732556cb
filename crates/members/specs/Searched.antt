-- What the tables stand for, apart from how they are filled: a search in a list that rises. Rust's `binary_search` finds the one
-- place where a number stands in such a list, and fails where it does not; so a table that is filled from the list and searching
-- the list with the table's default for a failure are the same (`points-searched`, `columns-searched`, proofs/Theorem.antt).
use Rattle.std.specs.Prelude.{ℕ, ◌+◌, ◌≤◌, cond, List, [], ◌∷◌, ◌≡◌, eqb, length, get_or}
use Rattle.groups.specs.Chains.{points_in}
use Rattle.groups.specs.declared.Grouping.{Grouping}
use Rattle.sketch.specs.declared.Point.{Point}
use Rattle.members.specs.Movable.{free_from}
use Rattle.members.specs.Tables.{places_of, columns_of}

-- where v stands in a list whose first has the number k, and d where it does not
unfoldable pub stands_from : ℕ → ℕ → List ℕ → ℕ → ℕ
stands_from k d [] v = d
stands_from k d (x ∷ l) v = cond (eqb x v) k (stands_from (k + 1) d l v)

-- equations.rs, `residuals`: `g.points.binary_search(&p).unwrap_or(0)`
abbrev pub place_among : List ℕ → ℕ → ℕ
place_among ps p = stands_from 0 0 ps p

-- solver.rs, `columns`: "`column[c]` is the position of coordinate `c` among the free ones", and 255 for `None`
abbrev pub position_of : List ℕ → ℕ → ℕ
position_of cs c = stands_from 0 255 cs c

-- the tables of a group's points, and of the free coordinates of at most 40 points, for every number, also past a table's end
abbrev pub PointsSearched : Grouping → ℕ → Type 0
PointsSearched gr j = length gr.of_point ≤ 40 → (p : ℕ) → get_or (places_of (points_in gr j)) p 0 ≡ place_among (points_in gr j) p

abbrev pub ColumnsSearched : List Point → Type 0
ColumnsSearched ps = length ps ≤ 40 → (c : ℕ) → get_or (columns_of (free_from 0 ps)) c 255 ≡ position_of (free_from 0 ps) c
