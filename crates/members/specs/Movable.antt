-- equations.rs, `fit`, its first lines: the points of a group, and the coordinates that the fit may move.
use Rattle.std.specs.Prelude.{ℕ, ◌+◌, ◌*◌, ◌≤◌, Bool, cond, List, [], ◌∷◌, map, ◌≡◌, length, get_or}
use Rattle.floats.specs.Ops.{zero⁺}
use Rattle.sketch.specs.Fixed.{is_fixed}
use Rattle.sketch.specs.declared.Point.{Point}
use Rattle.sketch.specs.declared.State.TheVariants.{Kept}
use Rattle.members.specs.Lists.{listed_in, numbers_of}
use Rattle.members.specs.declared.Coordinates.{Coordinates}

-- the Rust's `fixed`: kept or placed
abbrev pub fixed_of : Point → Bool
fixed_of p = is_fixed p.state

-- what stands where there is no point: one that is kept at the origin, so that nothing moves it
abbrev pub nowhere : Point
nowhere = record { start = record { x = zero⁺; y = zero⁺ }; state = Kept }

-- the points with these numbers
abbrev pub points_at : List Point → List ℕ → List Point
points_at points ps = map (λ p. get_or points p nowhere) ps

-- `filter(|(_, p)| !self.fixed[**p]).flat_map(|(k, _)| [2 * k, 2 * k + 1])`, of points of which the first is the k-th
unfoldable pub free_from : ℕ → List Point → List ℕ
free_from k [] = []
free_from k (p ∷ ps) = cond (fixed_of p) (free_from (k + 1) ps) (2 * k ∷ (2 * k + 1) ∷ free_from (k + 1) ps)

-- the coordinates at the head of an array
abbrev pub coordinates_of : List ℕ → Coordinates
coordinates_of l = record { 0 = listed_in 80 l }

-- the coordinates that are held: as many as the count says, and no more than there are places
abbrev pub indices_of : Coordinates → List ℕ
indices_of f = numbers_of f.0

-- what the call that finds them promises: f holds cs, and there is room for them
pub record ListsCoordinates (f : Coordinates) (cs : List ℕ) : Type 0 where
  pub is : f ≡ coordinates_of cs
  pub few : length cs ≤ 80
