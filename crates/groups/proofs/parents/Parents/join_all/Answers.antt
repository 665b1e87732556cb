-- What the pattern takes apart is what the definition goes over, whatever stands before the others. Assumes nothing.
use Prim.Native.Nat.{ℕ, ◌-◌, ◌<◌}
use mathlib.Core.List.{List, [], ◌∷◌, map}
use mathlib.Core.Path.{◌≡◌}
use native.Mathlib.Omega.{arith}
use borrow.Author.Rules.{rules}
use lib.ListN.{length, get_or, take, drop, length-drop, length-map, drop_of_length-le}
use lib.Seq.{take_all}
use Rattle.loops.specs.Turns.{fold}
use Rattle.std.proofs.lemmas.List.{drop-map}
use Rattle.sketch.specs.declared.PointNo.{PointNo}
use Rattle.groups.specs.Parents.{join_to, join_all}
use Rattle.groups.specs.Touches.{number}
use Rattle.groups.proofs.parents.Parents.join_all.Goals as goal

module _ (m : ℕ) (ps : List ℕ) where
  begins : (points : List PointNo) (d : PointNo) → 0 < length points
      → fold (join_to (get_or points 0 d).0) ps (map number (take (length points - m) (drop m points)))
      ≡ fold (join_to (get_or (map number points) 0 0)) ps (drop m (map number points))
  begins [] d h = absurd (omega arith)
  begins (x ∷ l) d h = rw (take_all (length (x ∷ l) - m) (drop m (x ∷ l)) (omega (arith, length-drop m (x ∷ l))), drop-map number m (x ∷ l))

  none : (points : List PointNo) → length points < m → ps ≡ fold (join_to (get_or (map number points) 0 0)) ps (drop m (map number points))
  none points h =
      let e : drop m (map number points) ≡ [] = drop_of_length-le (map number points) (omega (arith, length-map points number)) in
      rw e

pub loop-q-init : goal.loop-q-init
unfolding join_all
loop-q-init c = begins _ _ c.args.points.now _ (search rules)

pub returns-in_default : goal.returns-in_default
unfolding join_all
returns-in_default c = none _ _ c.args.points.now c.in_default.len_below
