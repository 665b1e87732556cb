-- The tables of a group: its points and its free coordinates rise within them, so that `binary_search` with its fallback, and the
-- position among the free coordinates, are what the tables hold. Assumes nothing.
--     points-searched      of the points of any group of a grouping
--     columns-searched     of the free coordinates of any points
use Prim.Native.Nat.{ℕ, suc, ◌+◌, ◌*◌, ◌≤◌, ◌<◌}
use mathlib.Core.Bool.{Bool, true, false, cond}
use mathlib.Core.List.Memᴰ
use mathlib.Core.List.{List, [], ◌∷◌, Memᴰ}
use mathlib.Core.Logic.{◌⊎◌, inl, inr}
use mathlib.Core.Path.{◌≡◌}
use native.Mathlib.Omega.{arith}
use lib.Dec.{eqb}
use lib.ListN.{length}
use Rattle.groups.proofs.Places.{rises}
use Rattle.groups.specs.Chains.{places_from, points_in, Rises}
use Rattle.groups.specs.declared.Grouping.{Grouping}
use Rattle.sketch.specs.declared.Point.{Point}
use Rattle.members.specs.Movable.{fixed_of, free_from}
use Rattle.members.specs.Searched.{PointsSearched, ColumnsSearched}
use Rattle.members.proofs.Searching.{Within, searched}

-- ---- points

places-within : (i : ℕ) (l : List ℕ) (j : ℕ) → Within (i + length l) (places_from i l j)
unfolding places_from
places-within i [] j p m = absurd (Memᴰ.not-nil m)
places-within i (x ∷ l) j p m = go (eqb x j) m (λ n. places-within (suc i) l j p n)
  where
    at : (p ≡ i) ⊎ Memᴰ p (places_from (suc i) l j) → (Memᴰ p (places_from (suc i) l j) → p < suc i + length l) → p < i + suc (length l)
    at (inl e) f = omega arith
    at (inr n) f = omega (arith, f n)

    go : (b : Bool) → Memᴰ p (cond b (i ∷ places_from (suc i) l j) (places_from (suc i) l j))
        → (Memᴰ p (places_from (suc i) l j) → p < suc i + length l) → p < i + suc (length l)
    go true m f = at (Memᴰ.cases_cons m) f
    go false m f = omega (arith, f m)

module _ (gr : Grouping) (j : ℕ) (sized : length gr.of_point ≤ 40) where
  points-within : Within 40 (points_in gr j)
  points-within p m = omega (arith, places-within 0 gr.of_point j p m)

pub points-searched : (gr : Grouping) (j : ℕ) → PointsSearched gr j
points-searched gr j sized p = searched 40 0 (points_in gr j) (rises 0 gr.of_point j) (points-within gr j sized) p

-- ---- free coordinates

pub free-few : (k : ℕ) (ps : List Point) → length (free_from k ps) ≤ 2 * length ps
unfolding free_from
free-few k [] = omega arith
free-few k (p ∷ ps) = go (fixed_of p) (free-few (k + 1) ps)
  where
    go : (b : Bool) → length (free_from (k + 1) ps) ≤ 2 * length ps
        → length (cond b (free_from (k + 1) ps) (2 * k ∷ (2 * k + 1) ∷ free_from (k + 1) ps)) ≤ 2 * suc (length ps)
    go true h = omega arith
    go false h = omega arith

-- between the k-th point's first and past the last point's second
Between : ℕ → ℕ → ℕ → Type 0
Between k n c = (2 * k ≤ c) × (c < 2 * (k + n))

free-between : (k : ℕ) (ps : List Point) (c : ℕ) → Memᴰ c (free_from k ps) → Between k (length ps) c
unfolding free_from Between
free-between k [] c m = absurd (Memᴰ.not-nil m)
free-between k (p ∷ ps) c m = go (fixed_of p) m (λ n. free-between (k + 1) ps c n)
  where
    rest : List ℕ
    rest = free_from (k + 1) ps

    later : Memᴰ c rest → (Memᴰ c rest → Between (k + 1) (length ps) c) → Between k (suc (length ps)) c
    later n f = let b = f n in (omega (arith, b.0), omega (arith, b.1))

    second : (c ≡ 2 * k + 1) ⊎ Memᴰ c rest → (Memᴰ c rest → Between (k + 1) (length ps) c) → Between k (suc (length ps)) c
    second (inl e) f = (omega arith, omega arith)
    second (inr n) f = later n f

    first : (c ≡ 2 * k) ⊎ Memᴰ c ((2 * k + 1) ∷ rest) → (Memᴰ c rest → Between (k + 1) (length ps) c) → Between k (suc (length ps)) c
    first (inl e) f = (omega arith, omega arith)
    first (inr n) f = second (Memᴰ.cases_cons n) f

    go : (b : Bool) → Memᴰ c (cond b rest (2 * k ∷ (2 * k + 1) ∷ rest)) → (Memᴰ c rest → Between (k + 1) (length ps) c) → Between k (suc (length ps)) c
    go true n f = later n f
    go false n f = first (Memᴰ.cases_cons n) f

free-rises : (k : ℕ) (ps : List Point) → Rises (free_from k ps)
unfolding free_from Between
free-rises k [] = tt
free-rises k (p ∷ ps) = go (fixed_of p) (free-rises (k + 1) ps)
  where
    above : (c : ℕ) → Memᴰ c (free_from (k + 1) ps) → 2 * k + 1 < c
    above c m = omega (arith, (free-between (k + 1) ps c m).0)

    from : (c : ℕ) → (c ≡ 2 * k + 1) ⊎ Memᴰ c (free_from (k + 1) ps) → 2 * k < c
    from c (inl e) = omega arith
    from c (inr m) = omega (arith, above c m)

    go : (b : Bool) → Rises (free_from (k + 1) ps) → Rises (cond b (free_from (k + 1) ps) (2 * k ∷ (2 * k + 1) ∷ free_from (k + 1) ps))
    go true r = r
    go false r = (λ c m. from c (Memᴰ.cases_cons m), (above, r))

pub columns-searched : (ps : List Point) → ColumnsSearched ps
unfolding Between
columns-searched ps h c =
    searched 80 255 (free_from 0 ps) (free-rises 0 ps) (λ x m. omega (arith, (free-between 0 ps x m).1)) c
