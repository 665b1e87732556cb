-- The turns of the loops that push numbers: what is left to come is said from the place that the loop has reached. Assumes nothing.
use Prim.Native.Nat.{ℕ, ◌+◌, ◌*◌, ◌≤◌, ◌<◌}
use mathlib.Core.Bool.{Bool, true, false, cond}
use mathlib.Core.List.{List, ◌∷◌}
use mathlib.Core.Logic.{◌≢◌}
use mathlib.Core.Path.{◌≡◌, ap}
use native.Mathlib.Numerals.{add-one}
use native.Mathlib.Omega.{arith}
use borrow.Author.Tests.{eq-eqb, ne_eqb}
use lib.Dec.{eqb}
use lib.ListN.{length, get_or, drop, length-map, drop_of_length-le, get_or-map}
use lib.Seq.{drop-cons}
use Rattle.groups.specs.Chains.{places_from}
use Rattle.sketch.specs.declared.Point.{Point}
use Rattle.members.specs.Lists.{Lists, pushed_of, without_of}
use Rattle.members.specs.Movable.{fixed_of, nowhere, points_at, free_from, ListsCoordinates}
use Rattle.members.specs.declared.Listed.{Listed}
use Rattle.members.proofs.Heads.{Pushed, pushed-next, pushed-done}

-- `holding`, of the places that hold g
module _ (of : List ℕ) (g i d : ℕ) (r : Listed 40) (whole : List ℕ) where
  places-next : i < length of → places_from i (drop i of) g ≡ cond (eqb (get_or of i d) g) (i ∷ places_from (i + 1) (drop (i + 1) of) g) (places_from (i + 1) (drop (i + 1) of) g)
  unfolding places_from
  places-next h = rw (add-one, drop-cons of i d h)

  pub holding-yes : (r' : Listed 40) → i < length of → get_or of i d ≡ g → r.count < 40 → r' ≡ pushed_of i r → Pushed r (places_from i (drop i of) g) whole
      → Pushed r' (places_from (i + 1) (drop (i + 1) of) g) whole
  holding-yes r' h q k e t = pushed-next i r r' _ whole k e (rw (places-next h, eq-eqb (get_or of i d) g q) at t)

  pub holding-no : i < length of → get_or of i d ≢ g → Pushed r (places_from i (drop i of) g) whole → Pushed r (places_from (i + 1) (drop (i + 1) of) g) whole
  holding-no h q t = rw (places-next h, ne_eqb (get_or of i d) g q) at t

  pub holding-done : length of ≤ i → r.count ≤ 40 → Pushed r (places_from i (drop i of) g) whole → Lists r whole
  unfolding places_from
  holding-done h k t = pushed-done r whole k (rw (drop_of_length-le of h) at t)

-- `without`, of the numbers that are not k
module _ (l : List ℕ) (k i d : ℕ) (r : Listed 40) (whole : List ℕ) where
  without-here : i < length l → without_of k (drop i l) ≡ cond (eqb (get_or l i d) k) (without_of k (drop (i + 1) l)) (get_or l i d ∷ without_of k (drop (i + 1) l))
  unfolding without_of
  without-here h = rw (add-one, drop-cons l i d h)

  pub without-yes : (r' : Listed 40) → i < length l → get_or l i d ≢ k → r.count < 40 → r' ≡ pushed_of (get_or l i d) r → Pushed r (without_of k (drop i l)) whole
      → Pushed r' (without_of k (drop (i + 1) l)) whole
  without-yes r' h q n e t = pushed-next (get_or l i d) r r' _ whole n e (rw (without-here h, ne_eqb (get_or l i d) k q) at t)

  pub without-no : i < length l → get_or l i d ≡ k → Pushed r (without_of k (drop i l)) whole → Pushed r (without_of k (drop (i + 1) l)) whole
  without-no h q t = rw (without-here h, eq-eqb (get_or l i d) k q) at t

pub without-done : (l ps : List ℕ) (k i : ℕ) (r : Listed 40) → l ≡ ps → length l ≤ i → r.count ≤ 40
    → Pushed r (without_of k (drop i l)) (without_of k l) → Lists r (without_of k ps)
unfolding without_of
without-done l ps k i r e h n t = rw (← e) (pushed-done r (without_of k l) n (rw (drop_of_length-le l h) at t))

-- `free`, of the coordinates of the points that are not fixed
module _ (points : List Point) (ps : List ℕ) (k d : ℕ) (f : Listed 80) (whole : List ℕ) where
  abbrev at : ℕ → Point
  at p = get_or points p nowhere

  abbrev left : ℕ → List Point
  left j = drop j (points_at points ps)

  here : k < length ps → left k ≡ at (get_or ps k d) ∷ left (k + 1)
  here h =
      let n : k < length (points_at points ps) = rw (length-map ps at) h in
      rw (add-one, drop-cons (points_at points ps) k (at d) n, get_or-map at ps k d)

  free-here : k < length ps → free_from k (left k) ≡ cond (fixed_of (at (get_or ps k d))) (free_from (k + 1) (left (k + 1))) (2 * k ∷ (2 * k + 1) ∷ free_from (k + 1) (left (k + 1)))
  unfolding free_from
  free-here h = rw (here h)

  module _ (h : k < length ps) (p : Point) (q : p ≡ at (get_or ps k d)) (b : Bool) (z : b ≡ fixed_of p) (t : Pushed f (free_from k (left k)) whole) where
    found : fixed_of (at (get_or ps k d)) ≡ b
    found = cc

    pub free-yes : (f₁ f₂ : Listed 80) → b ≡ false → f.count < 79 → f₁ ≡ pushed_of (2 * k) f → f₂ ≡ pushed_of (2 * k + 1) f₁
        → Pushed f₂ (free_from (k + 1) (left (k + 1))) whole
    free-yes f₁ f₂ y n e₁ e₂ =
        let one : f₁.count ≡ f.count + 1 = ap (λ l. l.count) e₁ in
        pushed-next (2 * k + 1) f₁ f₂ _ whole (omega arith) e₂
        (pushed-next (2 * k) f f₁ _ whole (omega arith) e₁ (rw (free-here h, found, y) at t))

    pub free-no : b ≡ true → Pushed f (free_from (k + 1) (left (k + 1))) whole
    free-no y = rw (free-here h, found, y) at t

pub free-done : (points : List Point) (ps items : List ℕ) (k : ℕ) (f : Listed 80) → items ≡ ps → length items ≤ k → f.count ≤ 80
    → Pushed f (free_from k (drop k (points_at points items))) (free_from 0 (points_at points items))
    → ListsCoordinates (record { 0 = f }) (free_from 0 (points_at points ps))
unfolding free_from
free-done points ps items k f e h n t =
    let m : length (points_at points items) ≤ k = rw (length-map items (λ p. get_or points p nowhere)) h in
    let all = pushed-done f _ n (rw (drop_of_length-le (points_at points items) m) at t) in
    rw (← e) (record { is = ap (λ l. record { 0 = l }) all.is; few = all.few })
