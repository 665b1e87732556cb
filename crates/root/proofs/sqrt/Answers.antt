-- `root::sqrt` meets its contract, by the pattern's tests. Assumes nothing.
use mathlib.Core.Path.{◌≡◌, refl, sym, ap, ◌∙◌, subst}
use Prim.Native.Nat.{ℕ, ◌*◌, ◌^◌}
use mathlib.Core.Bool.{true}
use native.Mathlib.Omega.{arith}
use lib.Dec.{T}
use lib.Ieee.{Float, nan, inf, fin, binary64, fits, is_nan, of_bits, to_bits}
use Rattle.root.specs.Root.{root_bits, sqrt_of}
use Rattle.root.proofs.Normal.{count_low, normal-is}
use Rattle.root.specs.Examples.{root-zero, root-minus-zero, root-infinite}
use Rattle.root.proofs.Value.{own-positive, own-other, own-kept}
use Rattle.root.proofs.sqrt.Goals as goal

nan_is : of_bits binary64 0x7ff8_0000_0000_0000 ≡ nan
unfolding of_bits
nan_is = refl

root-nan : (x : Float) → is_nan x ≡ true → sqrt_of x ≡ nan
unfolding sqrt_of is_nan
root-nan nan h = refl
root-nan (inf s) h = cc
root-nan (fin s m e) h = cc

-- what owning an `f64` tells: the format holds it
held : (x : Float) → fits binary64 x ≡ true → T (fits binary64 x)
held x e = subst T (sym e) tt

pub returns-then-is_nan : goal.returns-then-is_nan
returns-then-is_nan c = nan_is ∙ sym (root-nan c.args.x (sym c.is_nan.ensures.value ∙ c.if-is_nan.true))

pub returns-then-b-eq0 : goal.returns-then-b-eq0
returns-then-b-eq0 c =
    sym (own-kept c.args.x (held c.args.x c.well_formed.0.1) 0 c.if-b-eq0.true root-zero)

pub returns-then-e-eq0 : goal.returns-then-e-eq0
returns-then-e-eq0 c =
    let b = to_bits binary64 c.args.x in
    c.tiny.ensures
    ∙ ap (λ (n : ℕ). of_bits binary64 (root_bits (n * 2 ^ 1076))) (sym (count_low b (omega arith)))
    ∙ sym (own-positive c.args.x (held c.args.x c.well_formed.0.1) (omega arith) (omega arith))

pub returns-then-e-lt2047 : goal.returns-then-e-lt2047
returns-then-e-lt2047 c =
    let b = to_bits binary64 c.args.x in
    c.root.ensures
    ∙ ap (λ (n : ℕ). of_bits binary64 (root_bits n)) (normal-is b (omega arith))
    ∙ sym (own-positive c.args.x (held c.args.x c.well_formed.0.1) (omega arith) (omega arith))

pub returns-then-b-eq-INFINITE : goal.returns-then-b-eq-INFINITE
returns-then-b-eq-INFINITE c =
    sym (own-kept c.args.x (held c.args.x c.well_formed.0.1) 0x7ff0_0000_0000_0000 c.if-b-eq-INFINITE.true root-infinite)

pub returns-then-b : goal.returns-then-b
returns-then-b c =
    sym (own-kept c.args.x (held c.args.x c.well_formed.0.1) 0x8000_0000_0000_0000 c.if-b.true root-minus-zero)

pub returns-else-b : goal.returns-else-b
returns-else-b c =
    nan_is ∙ sym (own-other c.args.x (held c.args.x c.well_formed.0.1) (omega arith) c.if-b.false)
