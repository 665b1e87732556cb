-- The small vectors of equations.rs, its last lines: `sub`, `neg`, `dot`, `cross`, `norm`, `unit_from`, `across` and `Dir`.
-- Each product, sum and quotient rounds once.
use Rattle.std.specs.Float.Ieee as Ieee
use Rattle.std.specs.Prelude.{Float}
use Rattle.floats.specs.Ops.{◌⊕◌, ◌⊖◌, ◌⊗◌, ◌⊘◌}
use Rattle.root.specs.Root.{sqrt_of}
use Rattle.plane.specs.declared.Dir.{Dir}
use Rattle.plane.specs.declared.Vec2.{Vec2}

abbrev pub sub_of : Vec2 → Vec2 → Vec2
sub_of a b = record { x = a.x ⊖ b.x; y = a.y ⊖ b.y }

abbrev pub neg_of : Vec2 → Vec2
neg_of a = record { x = Ieee.neg a.x; y = Ieee.neg a.y }

abbrev pub dot_of : Vec2 → Vec2 → Float
dot_of a b = a.x ⊗ b.x ⊕ a.y ⊗ b.y

abbrev pub cross_of : Vec2 → Vec2 → Float
cross_of a b = a.x ⊗ b.y ⊖ a.y ⊗ b.x

unfoldable pub norm_of : Vec2 → Float
norm_of a = sqrt_of (dot_of a a)

-- d over its length, and the length
abbrev pub over_length : Vec2 → Float → Dir
over_length d len = record { u = record { x = d.x ⊘ len; y = d.y ⊘ len }; len = len }

unfoldable pub unit_from_of : Vec2 → Vec2 → Dir
unit_from_of a b = over_length (sub_of b a) (norm_of (sub_of b a))

-- (gw - w k) / len, where k is gw along w
abbrev pub less_along : Vec2 → Vec2 → Float → Float → Vec2
less_along w gw k len = record { x = (gw.x ⊖ w.x ⊗ k) ⊘ len; y = (gw.y ⊖ w.y ⊗ k) ⊘ len }

unfoldable pub across_of : Vec2 → Vec2 → Float → Vec2
across_of w gw len = less_along w gw (dot_of gw w) len

-- equations.rs, `scaled` and `measures`: q in units of size from the centre
abbrev pub in_units : Vec2 → Float → Vec2 → Vec2
in_units centre size q = record { x = (q.x ⊖ centre.x) ⊘ size; y = (q.y ⊖ centre.y) ⊘ size }
