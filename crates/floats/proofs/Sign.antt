-- The bits of a float without the sign's bit are those of its magnitude. Assumes nothing.
use Prim.Native.Nat.{ℕ, zero, suc, ◌+◌, ◌*◌, ◌%◌, ◌<◌}
use mathlib.Core.Bool.{Bool, true, false, not}
use mathlib.Core.Path.{◌≡◌, refl, sym, ap, subst, ◌∙◌}
use native.Mathlib.Nat.{mod-eq_of_lt, add-mod_left}
use native.Mathlib.Omega.{arith}
use lib.Dec.{T}
use lib.IntN.{ℤ}
use lib.Ieee.{Float, nan, inf, fin, binary64, to_bits, of_bits, fits, is_nan, nan_bits, top}
use lib.Ieee.Bits.{to_bits-lt, of_bits-to_bits, nan_bits_is}
use Rattle.floats.specs.Magnitude.{abs_of}

apart : (t u q : ℕ) → t + u + q ≡ t + (0 + u + q)
apart t u q = omega arith

with-sign : (m : ℕ) (e : ℤ) → to_bits binary64 (fin true m e) ≡ top binary64 + to_bits binary64 (fin false m e)
unfolding to_bits
with-sign m e = apart _ _ _

fits_signed : (m : ℕ) (e : ℤ) → T (fits binary64 (fin false m e)) → T (fits binary64 (fin true m e))
unfolding fits
fits_signed zero e h = h
fits_signed (suc m) e h = h

low_bits : (n k : ℕ) → n ≡ top binary64 + k → n < 2 * top binary64 → k < top binary64
low_bits n k e h = omega arith

below-sign : (m : ℕ) (e : ℤ) → T (fits binary64 (fin false m e)) → to_bits binary64 (fin false m e) < top binary64
below-sign m e h = low_bits _ _ (with-sign m e) (to_bits-lt binary64 (fin true m e) (fits_signed m e h))

fits-unsigned : (s : Bool) (m : ℕ) (e : ℤ) → T (fits binary64 (fin s m e)) → T (fits binary64 (fin false m e))
unfolding fits
fits-unsigned s zero e h = h
fits-unsigned s (suc m) e h = h

fits-abs : (x : Float) → T (fits binary64 x) → T (fits binary64 (abs_of x))
unfolding fits
fits-abs nan h = tt
fits-abs (inf s) h = tt
fits-abs (fin s m e) h = fits-unsigned s m e h

pub abs-bits : (x : Float) → T (fits binary64 x) → T (not (is_nan x)) → to_bits binary64 x % 0x8000_0000_0000_0000 ≡ to_bits binary64 (abs_of x)
unfolding is_nan to_bits
abs-bits nan h k = absurd k
abs-bits (inf true) h k = refl
abs-bits (inf false) h k = refl
abs-bits (fin true m e) h k =
    ap (λ n. n % 0x8000_0000_0000_0000) (with-sign m e)
    ∙ add-mod_left (top binary64) (to_bits binary64 (fin false m e))
    ∙ mod-eq_of_lt (below-sign m e (fits-unsigned true m e h))
abs-bits (fin false m e) h k = mod-eq_of_lt (below-sign m e h)

pub abs-value : (x : Float) → T (fits binary64 x) → T (not (is_nan x)) → of_bits binary64 (to_bits binary64 x % 0x8000_0000_0000_0000) ≡ abs_of x
abs-value x h k = ap (of_bits binary64) (abs-bits x h k) ∙ of_bits-to_bits binary64 (abs_of x) (fits-abs x h)

abs-no-nan : (x : Float) → T (not (is_nan x)) → T (not (is_nan (abs_of x)))
unfolding is_nan
abs-no-nan nan k = k
abs-no-nan (inf s) k = tt
abs-no-nan (fin s m e) k = tt

pub abs-readable : (x : Float) → T (fits binary64 x) → T (not (is_nan x)) → T (not (nan_bits binary64 (to_bits binary64 x % 0x8000_0000_0000_0000)))
abs-readable x h k =
    subst (λ (b : Bool). T (not b)) (sym (nan_bits_is binary64 (to_bits binary64 x % 0x8000_0000_0000_0000) ∙ ap is_nan (abs-value x h k))) (abs-no-nan x k)
