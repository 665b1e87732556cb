-- The first residual that the code hands out is the first row's. Assumes nothing.
use mathlib.Core.List.{List, [], ◌∷◌}
use mathlib.Core.Path.{◌≡◌, refl}
use lib.ListN.{get_or}
use Rattle.rows.specs.Entries.{Row, no_row, values_of}
use Rattle.measures.specs.Inside.{first_of}

pub first-row : (rs : List Row) → first_of (values_of rs) ≡ (get_or rs 0 no_row).value
first-row [] = refl
first-row (a ∷ []) = refl
first-row (a ∷ b ∷ rs) = refl
