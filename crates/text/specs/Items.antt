-- The items of a job: so many lines of one sort.
use Rattle.std.specs.Prelude.{List, [], ◌∷◌, ℕ, zero, suc, Result, Ok}
use Rattle.std.specs.Result.{result_map_both}
use Rattle.spelling.specs.Places.{Read, ◌>>=◌}

-- the first k items, of which `line` reads each
unfoldable pub items_at : {A : Type 0} → (List ℕ → ℕ → Read A) → ℕ → List ℕ → ℕ → Read (List A)
items_at line zero s at = Ok ([], at)
items_at line (suc k) s at = do
  a ← line s at
  l ← items_at line k s a.1
  Ok (a.0 ∷ l.0, l.1)

-- the items that a room was filled with, and the place after them
abbrev pub items_with : {A : Type 0} → List A → Result ℕ ℕ → Read (List A)
items_with l o = result_map_both (λ n. (l, n)) (λ e. e) o
