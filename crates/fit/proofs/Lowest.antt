-- `lowest-is` (specs/Groups.antt): the first point of a group is its lowest. Assumes nothing.
use Prim.Native.Nat.{ℕ, ◌≤◌}
use mathlib.Core.List.Memᴰ
use mathlib.Core.List.{List, [], ◌∷◌, ◌++◌, Memᴰ}
use mathlib.Core.Logic.{◌⊎◌, inl, inr}
use mathlib.Core.Path.{◌≡◌, refl}
use native.Mathlib.Omega.{arith}
use lib.ListN.{get_or}
use Rattle.groups.proofs.Theorem.{groups-are-chains}
use Rattle.groups.specs.Chains.{points_in, Rises}
use Rattle.groups.specs.Listed.{grouping_of}
use Rattle.sketch.specs.Check.{check_of}
use Rattle.sketch.specs.declared.Build.{Build}
use Rattle.std.specs.Prelude.{Ok}
use Rattle.fit.specs.Frames.{frame_of}
use Rattle.fit.specs.Groups.{LowestIs}

-- the first of a list that rises is its lowest, whatever stands past the list
first : (l past : List ℕ) (p : ℕ) → Memᴰ p l → Rises l → Memᴰ (get_or (l ++ past) 0 0) l × ((q : ℕ) → Memᴰ q l → get_or (l ++ past) 0 0 ≤ q)
first [] past p m r = absurd (Memᴰ.not-nil m)
first (x ∷ l) past p m r = (Memᴰ.head refl, λ q n. of q (Memᴰ.cases_cons n))
  where
    of : (q : ℕ) → (q ≡ x) ⊎ Memᴰ q l → x ≤ q
    of q (inl e) = omega arith
    of q (inr n) = omega (arith, r.0 q n)

module _ (b : Build) (g : ℕ) where
  pub lowest-is : check_of b ≡ Ok tt → LowestIs b (grouping_of b) g
  unfolding frame_of
  lowest-is passes h =
      let c = groups-are-chains b passes in
      let p = c.lowest g h in
      first (points_in (grouping_of b) g) _ p.0 p.1.0 (c.points-rise g)
