-- What the tests on floats say of the values. Assumes nothing.
use mathlib.Core.Path.{◌≡◌, refl}
use mathlib.Core.Bool.{true, false, not}
use lib.Dec.{T}
use lib.Ieee.{Float, nan, inf, fin, is_nan}
use lib.Ieee.Scale.{finite}
use Rattle.std.specs.Float.{float_is_finite}

pub only_nan : (x : Float) → is_nan x ≡ true → x ≡ nan
unfolding is_nan
only_nan nan h = refl
only_nan (inf s) h = cc
only_nan (fin s m e) h = cc

pub no_nan : (x : Float) → is_nan x ≡ false → T (not (is_nan x))
no_nan x h = rw h tt

-- std's word for finite is the logic's
pub finite_is : (x : Float) → float_is_finite x ≡ finite x
unfolding float_is_finite
finite_is nan = refl
finite_is (inf s) = refl
finite_is (fin s m e) = refl
