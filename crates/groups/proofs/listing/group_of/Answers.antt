-- Assumes nothing.
use Prim.Native.Nat.{ℕ, ◌<◌}
use mathlib.Core.List.{List, [], ◌∷◌, map}
use mathlib.Core.Path.{◌≡◌, refl, sym, ap, ◌∙◌}
use native.Mathlib.Omega.{arith}
use borrow.Author.Tests.{ltb-true, ltb-false}
use lib.ListN.{length, get_or}
use Rattle.sketch.specs.declared.PointNo.{PointNo}
use Rattle.groups.specs.Listed.{group_of}
use Rattle.groups.specs.Parents.{root_of}
use Rattle.groups.specs.Touches.{number}
use Rattle.groups.proofs.listing.group_of.Goals as goal

module _ (index ps : List ℕ) where
  none : (points : List PointNo) → length points ≡ 0 → group_of index (map number points) ps ≡ record { parents = ps; answer = 40 }
  unfolding group_of
  none [] e = refl
  none (p ∷ points) e = absurd (omega arith)

  owned : (points : List PointNo) (o : PointNo) → 0 < length points → o ≡ get_or points 0 o
      → group_of index (map number points) ps ≡ record { parents = (root_of ps o.0).parents; answer = get_or index (root_of ps o.0).answer 40 }
  unfolding group_of
  owned [] o e h = absurd (omega arith)
  owned (p ∷ points) o e h = rw h

pub returns-in_default : goal.returns-in_default
returns-in_default c = rw (none c.args.index.now c.args.p.now.above c.args.points.now (omega (arith, ltb-false 0 (length c.args.points.now) (sym c.in_default.ensures.item.0)))) (refl, refl)

pub returns : goal.returns
returns c =
    let index = c.args.index.now in
    rw (owned index c.args.p.now.above c.args.points.now c.in-Some.owner.now (ltb-true 0 (length c.args.points.now) (sym c.in-Some.ensures.item.0)) c.in-Some.ensures.item.1)
    (c.get_or.ensures ∙ ap (λ r. get_or index r 40) c.root.ensures.0, c.root.ensures.1)
