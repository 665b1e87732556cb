-- The fields of equations and measures, each with the comma in front of it (the byte 44).
use Rattle.std.specs.Prelude.{List, [], ◌∷◌, ℕ, Float, Result, Ok}
use Rattle.std.specs.Result.{result_map_both}
use Rattle.std.specs.Float.Ieee.{neg}
use Rattle.floats.specs.Ops.{one}
use Rattle.plane.specs.declared.Vec2.{Vec2}
use Rattle.sketch.specs.Kinds.{Sort}
use Rattle.sketch.specs.Made.{point_no, line_no, Stands, Row}
use Rattle.sketch.specs.declared.Contact.{Contact}
use Rattle.sketch.specs.declared.LineNo.{LineNo}
use Rattle.sketch.specs.declared.PointNo.{PointNo}
use Rattle.sketch.specs.declared.Rad.{Rad}
use Rattle.spelling.specs.Floating.{float_at}
use Rattle.spelling.specs.Letters.{ascii}
use Rattle.spelling.specs.Places.{Read, ◌>>=◌, if_ok, eat_of, word_of}
use Rattle.spelling.specs.Wholes.{whole_at}

-- what was read at a place that was moved on, with that place
abbrev pub with_place : {A : Type 0} → Result A ℕ → ℕ → Read A
with_place o next = result_map_both (λ a. (a, next)) (λ e. e) o

-- a point's or a line's number
unfoldable pub number_at : List ℕ → ℕ → Read ℕ
number_at s at = do
  n ← eat_of s at 44
  whole_at s n

unfoldable pub point_at : List ℕ → ℕ → Read PointNo
point_at s at = do
  n ← number_at s at
  Ok (point_no n.0, n.1)

unfoldable pub line_at : List ℕ → ℕ → Read LineNo
line_at s at = do
  n ← number_at s at
  Ok (line_no n.0, n.1)

unfoldable pub value_at : List ℕ → ℕ → Read Float
value_at s at = do
  n ← eat_of s at 44
  float_at s n

-- one of two words, and what it stands for; where neither stands there, the place at which the second one fails
abbrev pub either_at : {A : Type 0} → List ℕ → ℕ → List ℕ → A → List ℕ → A → Read A
either_at s at v a w b = if_ok (word_of s at v) (λ n. Ok (a, n)) (λ _. word_of s at w >>= λ n. Ok (b, n))

-- x is 0 and y is 1
unfoldable pub axis_at : List ℕ → ℕ → Read ℕ
axis_at s at = either_at s at (ascii ",x") 0 (ascii ",y") 1

-- + is 1.0 and - is -1.0
unfoldable pub side_at : List ℕ → ℕ → Read Float
side_at s at = either_at s at (ascii ",+") one (ascii ",-") (neg one)

-- p and a point, or v and a float
unfoldable pub rad_at : List ℕ → ℕ → Read Rad
rad_at s at =
    if_ok (word_of s at (ascii ",p"))
    (λ n. point_at s n >>= λ p. Ok (Rad.Point p.0, p.1))
    (λ _. word_of s at (ascii ",v") >>= λ n. value_at s n >>= λ v. Ok (Rad.Value v.0, v.1))

-- o is outside, a sign is inside
unfoldable pub contact_at : List ℕ → ℕ → Read Contact
contact_at s at = if_ok (word_of s at (ascii ",o")) (λ n. Ok (Contact.Outside, n)) (λ _. side_at s at >>= λ k. Ok (Contact.Inside k.0, k.1))

-- two floats; in front of the first there is no comma
unfoldable pub vec_at : List ℕ → ℕ → Read Vec2
vec_at s at = do
  x ← float_at s at
  y ← value_at s x.1
  Ok (record { x = x.0; y = y.0 }, y.1)

-- A field by its sort, and the fields of a row one after another.
abbrev pub field_at : (f : Sort) → List ℕ → ℕ → Read (Stands f)
field_at Sort.Point = point_at
field_at Sort.Line = line_at
field_at Sort.Value = value_at
field_at Sort.Axis = axis_at
field_at Sort.Side = side_at
field_at Sort.Radius = rad_at
field_at Sort.Contact = contact_at

abbrev pub row_at : (l : List Sort) → List ℕ → ℕ → Read (Row l)
row_at [] s at = Ok (tt, at)
row_at (f ∷ l) s at = do
  v ← field_at f s at
  m ← row_at l s v.1
  Ok ((v.0, m.0), m.1)
