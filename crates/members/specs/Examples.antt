-- Worked: what the definitions compute for a group of three points of five, the middle one kept, and document 01's (l).
-- Assumes nothing.
use Rattle.std.specs.Prelude.{true, List, [], ◌∷◌, ◌≡◌, refl, Float, get_or, replicate}
use Rattle.std.specs.Float.{nan}
use Rattle.std.specs.Float.Ieee.{of_bits, add, sub, mul, div, eq}
use Rattle.floats.specs.Ops.{◌⊖◌, ◌⊘◌, zero⁺, zero⁻, one, two}
use Rattle.groups.specs.Chains.{places_from, points_in, equations_in}
use Rattle.groups.specs.declared.Grouping.{Grouping}
use Rattle.loops.specs.Turns.{turns, up_to}
use Rattle.plane.specs.declared.Vec2.{Vec2}
use Rattle.sketch.specs.declared.Point.{Point}
use Rattle.sketch.specs.declared.State.{State}
use Rattle.sketch.specs.declared.State.TheVariants.{Free, Kept, Placed}
use Rattle.members.specs.Lists.{without_of}
use Rattle.members.specs.Movable.{nowhere, points_at, free_from}
use Rattle.members.specs.Scale.{start_of, move_by, unscale_to, unscale_at, unscale_of}
use Rattle.members.specs.Searched.{stands_from, place_among, position_of}
use Rattle.members.specs.Tables.{number_at, numbered_of, places_of, columns_of}

-- document 01's (a): of five points one group, 1, 3 and 4, with the equations 0 and 1
abbrev grouping : Grouping
grouping = record {
  of_point = 40 ∷ 0 ∷ 40 ∷ 0 ∷ 0 ∷ replicate 35 40;
  of_equation = 0 ∷ 0 ∷ replicate 38 40;
  count = 1;
}

-- a point that is drawn at −0.0 and 1.0
abbrev drawn : Vec2
drawn = record { x = zero⁻; y = one }

abbrev point : State → Point
point state = record { start = drawn; state = state }

abbrev five : List Point
five = point Free ∷ point Free ∷ point Free ∷ point Kept ∷ point Free ∷ []

pub group :
    (points_in grouping 0 ≡ 1 ∷ 3 ∷ 4 ∷ [])
    × (without_of 0 (equations_in grouping 0) ≡ 1 ∷ [])
    × (free_from 0 (points_at five (points_in grouping 0)) ≡ 0 ∷ 1 ∷ 4 ∷ 5 ∷ [])
    × (places_of (points_in grouping 0) ≡ 0 ∷ 0 ∷ 0 ∷ 1 ∷ 2 ∷ replicate 35 0)
    × (columns_of (0 ∷ 1 ∷ 4 ∷ 5 ∷ []) ≡ 0 ∷ 1 ∷ 255 ∷ 255 ∷ 2 ∷ 3 ∷ replicate 74 255)
    × (place_among (1 ∷ 3 ∷ 4 ∷ []) 4 ≡ 2)
    × (position_of (0 ∷ 1 ∷ 4 ∷ 5 ∷ []) 2 ≡ 255)
unfolding places_from without_of free_from number_at numbered_of stands_from turns up_to
group = (refl, refl, refl, refl, refl, refl, refl)

-- document 01's (l): an unmoved start −0.0 gives +0.0, whatever the centre and the size are and wherever the point's other coordinate is,
-- of a free point and of a kept one
abbrev pub Unmoved : State → Type 0
Unmoved state = (centre : Vec2) (size y : Float) (x out : List Float) → eq (get_or x 0 nan) ((zero⁻ ⊖ centre.x) ⊘ size) ≡ true
    → get_or (unscale_of (record { start = record { x = zero⁻; y = y }; state = state } ∷ replicate 39 nowhere) centre size (0 ∷ []) x (zero⁻ ∷ zero⁻ ∷ out)) 0 nan ≡ zero⁺

pub unmoved : Unmoved Free × Unmoved Kept
unfolding unscale_of unscale_at unscale_to move_by turns up_to add of_bits
unmoved = (λ centre size y x out e. rw e, λ centre size y x out e. rw e)

-- so the free and the kept point come back at +0.0, and the placed one at its place, −0.0
pub back-to-size :
    unscale_of (point Free ∷ point Kept ∷ point (Placed drawn) ∷ []) (record { x = zero⁺; y = zero⁺ }) two (0 ∷ 1 ∷ 2 ∷ [])
    (start_of (record { x = zero⁺; y = zero⁺ }) two (point Free ∷ point Kept ∷ point (Placed drawn) ∷ [])) (replicate 6 nan)
    ≡ zero⁺ ∷ one ∷ zero⁺ ∷ one ∷ zero⁻ ∷ one ∷ []
unfolding start_of move_by unscale_to unscale_at unscale_of turns up_to add sub mul div eq of_bits
back-to-size = refl
