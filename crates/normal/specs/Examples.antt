-- A worked half, of whatever numbers: the symmetric matrix
--     a b c
--     b d e
--     c e f
-- is kept as a, b d, c e f.
use Rattle.std.specs.Prelude.{[], ◌∷◌, ◌≡◌, refl, Float}
use Rattle.loops.specs.Turns.{turns, up_to}
use Rattle.normal.specs.Half.{triangle, half_place, half_rows, half_of, spread_one, spread_row, spread_of}
use Rattle.normal.specs.Normal.{set_both}

pub worked : (a b c d e f : Float) → (half_of 3 (a ∷ b ∷ c ∷ b ∷ d ∷ e ∷ c ∷ e ∷ f ∷ []) ≡ a ∷ b ∷ d ∷ c ∷ e ∷ f ∷ [])
    × (spread_of 3 (a ∷ b ∷ d ∷ c ∷ e ∷ f ∷ []) ≡ a ∷ b ∷ c ∷ b ∷ d ∷ e ∷ c ∷ e ∷ f ∷ [])
    × (half_place 2 1 ≡ 4)
    × (triangle 80 ≡ 3240)
unfolding triangle half_rows spread_of spread_row spread_one set_both up_to turns
worked a b c d e f = (refl, refl, refl, refl)
