-- Which points are fixed. Document 01: "fixed" means kept or placed. The Rust has this table in `Equations::fixed`.
use Rattle.std.specs.Prelude.{Bool, List, map}
pub use Rattle.sketch.specs.Fixed.{is_fixed}
use Rattle.sketch.specs.declared.Point.{Point}

abbrev pub fixed_point : Point → Bool
fixed_point p = is_fixed p.state

unfoldable pub fixed_of : List Point → List Bool
fixed_of ps = map fixed_point ps
