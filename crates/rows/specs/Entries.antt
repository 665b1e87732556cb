-- One row, as the Rust's `emit` takes it: its value, and its gradient as entries (point, dx, dy) in order. At most two rows
-- come of an equation.
use Rattle.std.specs.Prelude.{List, [], ◌∷◌, Float}
use Rattle.floats.specs.Ops.{zero⁺}
use Rattle.plane.specs.declared.Vec2.{Vec2}
use Rattle.sketch.specs.declared.PointNo.{PointNo}
use Rattle.rows.specs.declared.Entry.{Entry}
use Rattle.rows.specs.declared.answer.Values.{Values}

pub record Row : Type 0 where
  pub value : Float
  pub entries : List Entry

abbrev pub emit : Float → List Entry → Row
emit v es = record { value = v; entries = es }

abbrev pub entry : PointNo → Vec2 → Entry
entry p d = record { point = p; d = d }

-- what stands where nothing is
abbrev pub no_row : Row
no_row = emit zero⁺ []

-- rows as the code hands out their values
abbrev pub values_of : List Row → Values
values_of [] = Values.None
values_of (a ∷ []) = Values.One a.value
values_of (a ∷ b ∷ _) = Values.Two a.value b.value
