-- What groups are, apart from how they are found: exactly the chains. `t k` are the points that equation k touches, and a
-- grouping g says of each point and of each equation which group it is in.
use Rattle.std.specs.Prelude.{ℕ, suc, ◌≤◌, ◌<◌, cond, ◌↔◌, ◌≡◌, eqb}
use mathlib.Core.List.{List, [], ◌∷◌, Memᴰ}
use Rattle.groups.specs.declared.Grouping.{Grouping}

-- equation k touches point p
abbrev pub Touches : (ℕ → List ℕ) → ℕ → ℕ → Type 0
Touches t k p = Memᴰ p (t k)

-- some equation touches point p
abbrev pub Tied : (ℕ → List ℕ) → ℕ → Type 0
Tied t p = (k : ℕ) × Touches t k p

-- the equations ks are a chain from p to q: the first touches p, the last touches q, and each shares a point with the next
pub data Chain (t : ℕ → List ℕ) : List ℕ → ℕ → ℕ → Type 0 where
  last : {k p q : ℕ} → Touches t k p → Touches t k q → Chain t (k ∷ []) p q
  next : {k p r q : ℕ} {ks : List ℕ} → Touches t k p → Touches t k r → Chain t ks r q → Chain t (k ∷ ks) p q

-- a chain joins p and q
abbrev pub Chained : (ℕ → List ℕ) → ℕ → ℕ → Type 0
Chained t p q = (ks : List ℕ) × Chain t ks p q

-- the places of l that hold j, rising, of which the first is i
unfoldable pub places_from : ℕ → List ℕ → ℕ → List ℕ
places_from i [] j = []
places_from i (x ∷ l) j = cond (eqb x j) (i ∷ places_from (suc i) l j) (places_from (suc i) l j)

-- the points and the equations listed in group j
abbrev pub points_in : Grouping → ℕ → List ℕ
points_in g j = places_from 0 g.of_point j

abbrev pub equations_in : Grouping → ℕ → List ℕ
equations_in g j = places_from 0 g.of_equation j

-- each number is below all that follow it, so none stands twice
abbrev pub Rises : List ℕ → Type 0
Rises [] = Unit {0}
Rises (x ∷ l) = ((y : ℕ) → Memᴰ y l → x < y) × Rises l

-- p is the lowest point of group j
abbrev pub Lowest : Grouping → ℕ → ℕ → Type 0
Lowest g j p = Memᴰ p (points_in g j) × ((q : ℕ) → Memᴰ q (points_in g j) → p ≤ q)

-- the two points are listed in one group
abbrev pub Together : Grouping → ℕ → ℕ → Type 0
Together g p q = (j : ℕ) × (j < g.count) × Memᴰ p (points_in g j) × Memᴰ q (points_in g j)

-- the groups are exactly the chains
pub record GroupsAreChains (t : ℕ → List ℕ) (g : Grouping) : Type 0 where
  pub together : (p q : ℕ) → Tied t p → Tied t q → Together g p q ↔ Chained t p q
  -- each point that is touched is listed, in one group, and nothing else is
  pub point-listed : (p : ℕ) → Tied t p → (j : ℕ) × (j < g.count) × Memᴰ p (points_in g j)
  pub point-once : (p i j : ℕ) → Memᴰ p (points_in g i) → Memᴰ p (points_in g j) → i ≡ j
  pub point-only : (p j : ℕ) → j < g.count → Memᴰ p (points_in g j) → Tied t p
  -- each equation that touches a point is listed, in its points' group, and nothing else is
  pub equation-listed : (k p j : ℕ) → Touches t k p → Memᴰ p (points_in g j) → Memᴰ k (equations_in g j)
  pub equation-once : (k i j : ℕ) → Memᴰ k (equations_in g i) → Memᴰ k (equations_in g j) → i ≡ j
  pub equation-only : (k j : ℕ) → j < g.count → Memᴰ k (equations_in g j) → (p : ℕ) × Touches t k p
  -- points and equations rise within a group, and the groups by their lowest points, of which each has one
  pub points-rise : (j : ℕ) → Rises (points_in g j)
  pub equations-rise : (j : ℕ) → Rises (equations_in g j)
  pub lowest : (j : ℕ) → j < g.count → (p : ℕ) × Lowest g j p
  pub ordered : (i j p q : ℕ) → i < j → j < g.count → Lowest g i p → Lowest g j q → p < q
