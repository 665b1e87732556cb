-- The check on both sides of each line: worked cases, which compute.
use Rattle.std.specs.Prelude.{◌≡◌, refl, ℕ, Float, replicate, Ok, Err}
use mathlib.Core.List.{List, [], ◌∷◌, ◌++◌, map, flat_map}
use Rattle.std.specs.Float.{nan}
use Rattle.std.specs.Float.Ieee.{le, lt, eq, neg, of_bits}
use Rattle.floats.specs.Ops.{zero⁺, zero⁻, one, half, million, 1/1024}
use Rattle.plane.specs.declared.Vec2.{Vec2}
use Rattle.sketch.specs.Blank.{blank_point, sample}
use Rattle.sketch.specs.Check.{check_of}
use Rattle.sketch.specs.Involved.{no_point, no_line}
use Rattle.sketch.specs.Rows.{more_rows, rows_of}
use Rattle.sketch.specs.declared.Build.{Build}
use Rattle.sketch.specs.declared.Contact.TheVariants.{Outside, Inside}
use Rattle.sketch.specs.declared.Ending.TheVariants.{TooMany, OutOfBounds, NoSuchItem, TooManyRows}
use Rattle.sketch.specs.declared.Equation.{Equation}
use Rattle.sketch.specs.declared.Equation.TheVariants.{Coincident, Level, Held, Distance, AxisDistance, Length, PointLine, Radius, LineCircle, CircleCircle}
use Rattle.sketch.specs.declared.LineNo.{LineNo}
use Rattle.sketch.specs.declared.Measure.{Measure}
use Rattle.sketch.specs.declared.Rad.{Rad}
use Rattle.sketch.specs.declared.State.TheVariants.{Free}

origin : Vec2
origin = record { x = zero⁺; y = zero⁻ }

-- n points at the origin, m lines from point 0 to itself, k equations that are all alike, and one measure
build : Float → ℕ → ℕ → ℕ → Equation → Build
build size n m k e = record {
  centre = origin;
  size = size;
  points = replicate 40 (record { start = origin; state = Free });
  point_count = n;
  lines = replicate 40 no_line;
  line_count = m;
  equations = replicate 40 (record { equation = e });
  equation_count = k;
  measures = replicate 20 (record { measure = Measure.Radius no_point no_point });
  measure_count = 1;
}

forty-points : check_of (build one 40 40 40 Held) ≡ Ok tt
unfolding build check_of origin le lt eq neg of_bits flat_map more_rows rows_of
forty-points = refl

forty-one-points : check_of (build one 41 40 40 Held) ≡ Err TooMany
unfolding build check_of
forty-one-points = refl

least_size : check_of (build 1/1024 1 0 0 Held) ≡ Ok tt
unfolding build check_of origin le lt eq neg of_bits flat_map
least_size = refl

no_size : check_of (build zero⁺ 1 0 0 Held) ≡ Err OutOfBounds
unfolding build check_of origin le lt eq neg of_bits flat_map
no_size = refl

-- Every number, side, axis and contact of the equations and of the measures, in turn: a NaN, a side that is neither 1 nor −1 and an axis
-- that is neither 0 nor 1 end in 4, and the same items with good ones pass.
abbrev line : LineNo
line = record { 0 = 0 }

abbrev circle : Rad
circle = Rad.Value one

equations : Float → Float → ℕ → List Equation
equations v s a =
    Level no_point no_point a
    ∷ Distance no_point no_point v
    ∷ AxisDistance no_point no_point a one one
    ∷ AxisDistance no_point no_point 0 v one
    ∷ AxisDistance no_point no_point 1 one s
    ∷ Length line v
    ∷ PointLine no_point line v one
    ∷ PointLine no_point line one s
    ∷ Radius no_point no_point v
    ∷ LineCircle line no_point (Rad.Value v) one
    ∷ LineCircle line no_point circle s
    ∷ CircleCircle no_point (Rad.Value v) no_point circle Outside
    ∷ CircleCircle no_point circle no_point (Rad.Value v) Outside
    ∷ CircleCircle no_point circle no_point circle (Inside s)
    ∷ []

measures : Float → ℕ → List Measure
measures s a =
    Measure.AxisDistance no_point no_point a one
    ∷ Measure.AxisDistance no_point no_point 0 s
    ∷ Measure.PointLine no_point line s
    ∷ []

bad-equations : map (λ e. check_of (build one 1 1 1 e)) (equations nan half 2) ≡ replicate 14 (Err OutOfBounds)
unfolding build check_of equations origin le lt eq neg of_bits flat_map
bad-equations = refl

nan-sides : map (λ e. check_of (build one 1 1 1 e)) (equations nan nan 2) ≡ replicate 14 (Err OutOfBounds)
unfolding build check_of equations origin le lt eq neg of_bits flat_map
nan-sides = refl

good-equations : map (λ e. check_of (build one 1 1 1 e)) (equations million (neg one) 1) ≡ replicate 14 (Ok tt)
unfolding build check_of equations origin le lt eq neg of_bits flat_map more_rows rows_of
good-equations = refl

measured : Measure → Build
measured d = sample origin one (blank_point ∷ []) (no_line ∷ []) [] (record { measure = d } ∷ [])

bad-measures : map (λ d. check_of (measured d)) (measures half 2 ++ measures nan 2) ≡ replicate 6 (Err OutOfBounds)
unfolding measured measures check_of origin le lt eq neg of_bits flat_map
bad-measures = refl

good-measures : map (λ d. check_of (measured d)) (measures (neg one) 1) ≡ replicate 3 (Ok tt)
unfolding measured measures check_of origin le lt eq neg of_bits flat_map
good-measures = refl

-- 4 before 5: a NaN in an equation whose points are not there
four-first : check_of (build one 0 0 1 (Distance no_point no_point nan)) ≡ Err OutOfBounds
unfolding build check_of origin le lt eq neg of_bits flat_map
four-first = refl

-- a line number is held to the lines, of which there are none
no-line : check_of (build one 40 0 1 (Length (record { 0 = 0 }) one)) ≡ Err NoSuchItem
unfolding build check_of origin le lt eq neg of_bits flat_map
no-line = refl

-- two rows each: 32 equations have 64, 33 have 66
rows-at-most : check_of (build one 1 0 32 (Coincident no_point no_point)) ≡ Ok tt
unfolding build check_of origin le lt eq neg of_bits flat_map more_rows rows_of
rows-at-most = refl

rows-too-many : check_of (build one 1 0 33 (Coincident no_point no_point)) ≡ Err TooManyRows
unfolding build check_of origin le lt eq neg of_bits flat_map more_rows rows_of
rows-too-many = refl
