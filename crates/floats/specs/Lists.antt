-- What the calls on slices leave in them.
use Rattle.std.specs.Prelude.{List, ◌++◌, ℕ, Float, length, get_or, set, take, drop}
use Rattle.std.specs.Float.{nan}

-- as much of a list as there is room for, and then what was there
abbrev pub copied_of : List Float → List Float → List Float
copied_of from to = take (length to) from ++ drop (length from) to

-- `swap`
unfoldable pub swap_at : ℕ → ℕ → List Float → List Float
swap_at i j s = set (set s i (get_or s j nan)) j (get_or s i nan)
