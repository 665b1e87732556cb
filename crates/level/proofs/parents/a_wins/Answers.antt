-- The order of pairs, as the definition says it. Assumes nothing.
use Prim.Native.Nat.{ℕ, ◌<◌}
use mathlib.Core.Bool.{Bool, true, false}
use mathlib.Core.Path.{◌≡◌, refl}
use native.Mathlib.Decide.{ℕ_discrete, dec_lt}
use native.Mathlib.Omega.{arith}
use borrow.Author.Tests.{lt-ltb, le-ltb, eq-eqb, ne_eqb}
use lib.Dec.{ltb}
use Rattle.std.specs.Ordering.{is_gt, nat_cmp, bool_cmp, partial_gt, partial_ordering_then}
use Rattle.std.specs.Prelude.{Some}
use Rattle.level.specs.Parents.{greater, a_wins}
use Rattle.level.proofs.parents.a_wins.Goals as goal

above : (n m : ℕ) → is_gt (nat_cmp n m) ≡ ltb m n
above n m = go (dec_lt n m) (ℕ_discrete n m)
  where
    go : Dec (n < m) → Dec (n ≡ m) → is_gt (nat_cmp n m) ≡ ltb m n
    go (yes h) d = rw (lt-ltb n m h, le-ltb m n (omega arith))
    go (no h) (yes e) = rw (le-ltb n m (omega arith), eq-eqb n m e, le-ltb m n (omega arith))
    go (no h) (no e) = rw (le-ltb n m (omega arith), ne_eqb n m e, lt-ltb m n (omega arith))

wins : (f g : Bool) (n m : ℕ)
    → partial_gt {X = Bool × ℕ} (λ x y. partial_ordering_then (Some (bool_cmp x.0 y.0)) (Some (nat_cmp x.1 y.1))) (f, n) (g, m) ≡ greater f n g m
wins true true n m = above n m
wins true false n m = refl
wins false true n m = refl
wins false false n m = above n m

pub returns : goal.returns
unfolding a_wins
returns c =
    rw (c.gt.ensures, c.get_or-fa.ensures, c.get_or-fb.ensures) (wins _ _ c.args.rb c.args.ra)
