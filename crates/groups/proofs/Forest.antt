-- Laws of the parents. `rt ps x` is the root of x with no path halved; halving keeps every root, and a join makes the larger
-- root's points the smaller's.
--     root-next, root-done  `root_of` goes as the Rust's loop does
--     Kept                  parents with the same roots; what `root_of` leaves
--     root_is               what `root_of` answers
--     join-roots            the roots after a join
-- Assumes nothing.
use Prim.Native.Nat.{ℕ, zero, suc, ◌+◌, ◌≤◌, ◌<◌, max, min}
use mathlib.Core.Bool.{Bool, true, false, cond}
use mathlib.Core.List.{List}
use mathlib.Core.Logic.{◌⊎◌, inl, inr, ◌≢◌}
use mathlib.Core.Path.{◌≡◌, refl, sym, ap, ◌∙◌, subst}
use native.Mathlib.Decide.{ℕ_discrete, dec_lt}
use native.Mathlib.Nat.{not-suc-le-zero, max-eq_left, max-eq_right, min-eq_left, min-eq_right}
use native.Mathlib.Omega.{arith}
use borrow.Author.Tests.{eqb-true, eqb-false, eq-eqb, ne_eqb}
use lib.Dec.{eqb}
use lib.ListN.{length, set, replicate, length-set, get_or-eq_default}
use lib.Seq.{get_or-set_same, get_or-set_other, set_out}
use Rattle.groups.specs.Parents.{up, Falls, halved, climb, root_of, join_to, self_at, alone}
use Rattle.loops.proofs.Keeps.{up_to-keeps}

-- after a store a point's parent is what was stored, or what it was
stored : (ps : List ℕ) (x v y : ℕ) → ((y ≡ x) × (up (set ps x v) y ≡ v)) ⊎ (up (set ps x v) y ≡ up ps y)
stored ps x v y = go (ℕ_discrete y x) (dec_lt x (length ps))
  where
    go : Dec (y ≡ x) → Dec (x < length ps) → ((y ≡ x) × (up (set ps x v) y ≡ v)) ⊎ (up (set ps x v) y ≡ up ps y)
    go (no n) d = inr (get_or-set_other ps x y v y n)
    go (yes e) (yes h) = inl (e, rw e (get_or-set_same ps x v x h))
    go (yes e) (no n) = inr (ap (λ l. up l y) (set_out ps x v (omega arith)))

set-falls : (ps : List ℕ) (x v : ℕ) → Falls ps → v ≤ x → Falls (set ps x v)
set-falls ps x v f h y = go (stored ps x v y)
  where
    go : ((y ≡ x) × (up (set ps x v) y ≡ v)) ⊎ (up (set ps x v) y ≡ up ps y) → up (set ps x v) y ≤ y
    go (inl e) = rw e.1 (omega arith)
    go (inr e) = rw e (f y)

pub halved-falls : (ps : List ℕ) (x : ℕ) → Falls ps → Falls (halved ps x)
halved-falls ps x f = set-falls ps x (up ps (up ps x)) f (omega (arith, f x, f (up ps x)))

-- the parent of x once its path is halved
pub halved-up : (ps : List ℕ) (x : ℕ) → up (halved ps x) x ≡ up ps (up ps x)
halved-up ps x = go (dec_lt x (length ps))
  where
    go : Dec (x < length ps) → up (halved ps x) x ≡ up ps (up ps x)
    go (yes h) = get_or-set_same ps x (up ps (up ps x)) x h
    go (no n) =
        let e : up ps x ≡ x = get_or-eq_default ps x (omega arith) in
        let q : up (halved ps x) x ≡ up ps x = ap (λ l. up l x) (set_out ps x (up ps (up ps x)) (omega arith)) in
        q ∙ ap (λ y. up ps y) (sym e)

-- the root, without halving: as many steps up as x
rt_in : ℕ → List ℕ → ℕ → ℕ
rt_in zero ps x = x
rt_in (suc k) ps x = rt_in k ps (up ps x)

unfoldable pub rt : List ℕ → ℕ → ℕ
unfolding rt_in
rt ps x = rt_in x ps x

stay : (k : ℕ) (ps : List ℕ) (x : ℕ) → up ps x ≡ x → rt_in k ps x ≡ x
unfolding rt_in
stay zero ps x e = refl
stay (suc k) ps x e = rw e (stay k ps x e)

lower : (k : ℕ) (ps : List ℕ) (x : ℕ) → Falls ps → rt_in k ps x ≤ x
unfolding rt_in
lower zero ps x f = omega arith
lower (suc k) ps x f = omega (arith, f x, lower k ps (up ps x) f)

turned : (k : ℕ) (ps : List ℕ) (x : ℕ) → rt_in k ps (up ps x) ≡ up ps (rt_in k ps x)
unfolding rt_in
turned zero ps x = refl
turned (suc k) ps x = turned k ps (up ps x)

topped : (k : ℕ) (ps : List ℕ) (x : ℕ) → Falls ps → x ≤ k → up ps (rt_in k ps x) ≡ rt_in k ps x
unfolding rt_in
topped zero ps x f h = omega (arith, f x)
topped (suc k) ps x f h = go (ℕ_discrete (up ps x) x) (λ l. topped k ps (up ps x) f l)
  where
    go : Dec (up ps x ≡ x) → (up ps x ≤ k → up ps (rt_in k ps (up ps x)) ≡ rt_in k ps (up ps x))
        → up ps (rt_in k ps (up ps x)) ≡ rt_in k ps (up ps x)
    go (yes e) r = rw (e, stay k ps x e) e
    go (no n) r = r (omega (arith, f x))

-- more steps than x change nothing
enough : (k : ℕ) (ps : List ℕ) (x : ℕ) → Falls ps → x ≤ k → rt_in k ps x ≡ rt ps x
unfolding rt_in rt
enough zero ps x f h = let e : x ≡ 0 = omega arith in rw e
enough (suc k) ps x f h = go (ℕ_discrete x (suc k)) (λ l. enough k ps x f l)
  where
    go : Dec (x ≡ suc k) → (x ≤ k → rt_in k ps x ≡ rt ps x) → rt_in (suc k) ps x ≡ rt ps x
    go (yes e) r = rw e
    go (no n) r = let l : x ≤ k = omega arith in turned k ps x ∙ topped k ps x f l ∙ r l

module _ (ps : List ℕ) (f : Falls ps) where
  pub rt-low : (x : ℕ) → rt ps x ≤ x
  unfolding rt
  rt-low x = lower x ps x f

  pub rt-top : (x : ℕ) → up ps (rt ps x) ≡ rt ps x
  unfolding rt
  rt-top x = topped x ps x f (omega arith)

  pub rt-at : (x : ℕ) → up ps x ≡ x → rt ps x ≡ x
  unfolding rt
  rt-at x e = stay x ps x e

  pub rt-rt : (x : ℕ) → rt ps (rt ps x) ≡ rt ps x
  rt-rt x = rt-at (rt ps x) (rt-top x)

  pub rt-up : (x : ℕ) → rt ps (up ps x) ≡ rt ps x
  unfolding rt_in
  rt-up x = sym (enough x ps (up ps x) f (f x)) ∙ enough (suc x) ps x f (omega arith)

  -- the one function that a parent shares with its child and that keeps each root
  one : (g : ℕ → ℕ) → ((y : ℕ) → g (up ps y) ≡ g y) → (k x : ℕ) → g (rt_in k ps x) ≡ g x
  unfolding rt_in
  one g s zero x = refl
  one g s (suc k) x = one g s k (up ps x) ∙ s x

  pub rt-only : (g : ℕ → ℕ) → ((y : ℕ) → g (up ps y) ≡ g y) → ((r : ℕ) → up ps r ≡ r → g r ≡ r) → (x : ℕ) → rt ps x ≡ g x
  unfolding rt
  rt-only g s t x = sym (t (rt ps x) (rt-top x)) ∙ one g s x x

-- ps' has the roots of ps
pub record Kept (ps ps' : List ℕ) : Type 0 where
  pub falls : Falls ps'
  pub sized : length ps' ≡ length ps
  pub roots : (x : ℕ) → rt ps' x ≡ rt ps x

pub kept_refl : (ps : List ℕ) → Falls ps → Kept ps ps
kept_refl ps f = record { falls = f; sized = refl; roots = λ x. refl }

pub kept_trans : (ps qs rs : List ℕ) → Kept ps qs → Kept qs rs → Kept ps rs
kept_trans ps qs rs a b = record { falls = b.falls; sized = b.sized ∙ a.sized; roots = λ x. b.roots x ∙ a.roots x }

module _ (ps : List ℕ) (x : ℕ) (f : Falls ps) where
  halved-same : (y : ℕ) → rt ps (up (halved ps x) y) ≡ rt ps y
  halved-same y = go (stored ps x (up ps (up ps x)) y)
    where
      go : ((y ≡ x) × (up (halved ps x) y ≡ up ps (up ps x))) ⊎ (up (halved ps x) y ≡ up ps y) → rt ps (up (halved ps x) y) ≡ rt ps y
      go (inl e) = rw (e.1, e.0) (rt-up ps f (up ps x) ∙ rt-up ps f x)
      go (inr e) = rw e (rt-up ps f y)

  halved-top : (y : ℕ) → up (halved ps x) y ≡ y → rt ps y ≡ y
  halved-top y t = rt-at ps f y (go (stored ps x (up ps (up ps x)) y))
    where
      go : ((y ≡ x) × (up (halved ps x) y ≡ up ps (up ps x))) ⊎ (up (halved ps x) y ≡ up ps y) → up ps y ≡ y
      go (inl e) = rw e.0 (omega (arith, f x, f (up ps x), sym e.1 ∙ t, e.0))
      go (inr e) = sym e ∙ t

  halved-kept : Kept ps (halved ps x)
  halved-kept = record {
    falls = halved-falls ps x f;
    sized = length-set ps x (up ps (up ps x));
    roots = rt-only (halved ps x) (halved-falls ps x f) (rt ps) halved-same halved-top;
  }

climb-kept : (k : ℕ) (ps : List ℕ) (x : ℕ) → Falls ps → Kept ps (climb k ps x).parents
unfolding climb
climb-kept zero ps x f = kept_refl ps f
climb-kept (suc k) ps x f =
    go (eqb (up ps x) x)
    (kept_trans ps (halved ps x) (climb k (halved ps x) (up (halved ps x) x)).parents (halved-kept ps x f)
    (climb-kept k (halved ps x) (up (halved ps x) x) (halved-falls ps x f)))
  where
    go : (b : Bool) → Kept ps (climb k (halved ps x) (up (halved ps x) x)).parents
        → Kept ps (cond b (record { parents = ps; answer = x }) (climb k (halved ps x) (up (halved ps x) x))).parents
    go true r = kept_refl ps f
    go false r = r

-- a turn goes to a lower point
turn-lower : (k : ℕ) (ps : List ℕ) (x : ℕ) → Falls ps → up ps x ≢ x → x ≤ suc k → up (halved ps x) x ≤ k
turn-lower k ps x f n h = rw (halved-up ps x) (omega (arith, f x, f (up ps x)))

climb-is : (k : ℕ) (ps : List ℕ) (x : ℕ) → Falls ps → x ≤ k → (climb k ps x).answer ≡ rt ps x
unfolding climb
climb-is zero ps x f h = let e : x ≡ 0 = omega arith in sym (rt-at ps f x (omega (arith, f x)))
climb-is (suc k) ps x f h = go (eqb (up ps x) x) refl (λ l. climb-is k (halved ps x) (up (halved ps x) x) (halved-falls ps x f) l)
  where
    go : (b : Bool) → eqb (up ps x) x ≡ b
        → (up (halved ps x) x ≤ k → (climb k (halved ps x) (up (halved ps x) x)).answer ≡ rt (halved ps x) (up (halved ps x) x))
        → (cond b (record { parents = ps; answer = x }) (climb k (halved ps x) (up (halved ps x) x))).answer ≡ rt ps x
    go true e r = sym (rt-at ps f x (eqb-true (up ps x) x e))
    go false e r =
        r (turn-lower k ps x f (eqb-false (up ps x) x e) h)
        ∙ (halved-kept ps x f).roots (up (halved ps x) x)
        ∙ halved-same ps x f x

-- how many turns are allowed does not matter where there are enough
climb-same : (j k : ℕ) (ps : List ℕ) (x : ℕ) → Falls ps → x ≤ j → x ≤ k → climb j ps x ≡ climb k ps x
unfolding climb
climb-same zero zero ps x f h l = refl
climb-same zero (suc k) ps x f h l = let e : up ps x ≡ x = omega (arith, f x) in rw (eq-eqb (up ps x) x e)
climb-same (suc j) zero ps x f h l = let e : up ps x ≡ x = omega (arith, f x) in rw (eq-eqb (up ps x) x e)
climb-same (suc j) (suc k) ps x f h l =
    go (eqb (up ps x) x) refl (λ a b. climb-same j k (halved ps x) (up (halved ps x) x) (halved-falls ps x f) a b)
  where
    go : (b : Bool) → eqb (up ps x) x ≡ b
        → (up (halved ps x) x ≤ j → up (halved ps x) x ≤ k
        → climb j (halved ps x) (up (halved ps x) x) ≡ climb k (halved ps x) (up (halved ps x) x))
        → cond b (record { parents = ps; answer = x }) (climb j (halved ps x) (up (halved ps x) x))
        ≡ cond b (record { parents = ps; answer = x }) (climb k (halved ps x) (up (halved ps x) x))
    go true e r = refl
    go false e r =
        r (turn-lower j ps x f (eqb-false (up ps x) x e) h)
        (turn-lower k ps x f (eqb-false (up ps x) x e) l)

climb-done : (k : ℕ) (ps : List ℕ) (x : ℕ) → up ps x ≡ x → climb k ps x ≡ record { parents = ps; answer = x }
unfolding climb
climb-done zero ps x e = refl
climb-done (suc k) ps x e = rw (eq-eqb (up ps x) x e)

climb-next : (k : ℕ) (ps : List ℕ) (x : ℕ) → up ps x ≢ x → climb (suc k) ps x ≡ climb k (halved ps x) (up (halved ps x) x)
unfolding climb
climb-next k ps x n = rw (ne_eqb (up ps x) x n)

pub root-done : (ps : List ℕ) (x : ℕ) → up ps x ≡ x → root_of ps x ≡ record { parents = ps; answer = x }
unfolding root_of
root-done ps x e = climb-done x ps x e

module _ (ps : List ℕ) (x : ℕ) (f : Falls ps) where
  pub root-next : up ps x ≢ x → root_of ps x ≡ root_of (halved ps x) (up (halved ps x) x)
  unfolding root_of
  root-next n = go x refl
    where
      go : (k : ℕ) → x ≡ k → climb k ps x ≡ climb (up (halved ps x) x) (halved ps x) (up (halved ps x) x)
      go zero e = absurd (n (omega (arith, f x)))
      go (suc k) e =
          climb-next k ps x n
          ∙ climb-same k (up (halved ps x) x) (halved ps x) (up (halved ps x) x) (halved-falls ps x f) (turn-lower k ps x f n (omega arith))
          (omega arith)

  pub root_kept : Kept ps (root_of ps x).parents
  unfolding root_of
  root_kept = climb-kept x ps x f

  pub root_is : (root_of ps x).answer ≡ rt ps x
  unfolding root_of
  root_is = climb-is x ps x f (omega arith)

-- the root r once the root a lies under the root b
unfoldable pub merged : ℕ → ℕ → ℕ → ℕ
merged a b r = cond (eqb r a) b r

pub merged-at : (a b : ℕ) → merged a b a ≡ b
unfolding merged
merged-at a b = rw (eq-eqb a a refl)

merged-other : (a b r : ℕ) → r ≢ a → merged a b r ≡ r
unfolding merged
merged-other a b r n = rw (ne_eqb r a n)

pub merged-low : (a b : ℕ) → merged a b b ≡ b
merged-low a b = go (ℕ_discrete b a)
  where
    go : Dec (b ≡ a) → merged a b b ≡ b
    go (yes e) = rw e (merged-at a a)
    go (no n) = merged-other a b b n

module _ (ps : List ℕ) (f : Falls ps) (a b : ℕ) (i : a < length ps) (ta : up ps a ≡ a) (tb : up ps b ≡ b) (h : b ≤ a) where
  under_same : (y : ℕ) → merged a b (rt ps (up (set ps a b) y)) ≡ merged a b (rt ps y)
  under_same y = go (stored ps a b y)
    where
      go : ((y ≡ a) × (up (set ps a b) y ≡ b)) ⊎ (up (set ps a b) y ≡ up ps y) → merged a b (rt ps (up (set ps a b) y)) ≡ merged a b (rt ps y)
      go (inl e) = rw (e.1, e.0, rt-at ps f a ta, rt-at ps f b tb) (merged-low a b ∙ sym (merged-at a b))
      go (inr e) = rw (e, rt-up ps f y)

  under_top : (r : ℕ) → up (set ps a b) r ≡ r → merged a b (rt ps r) ≡ r
  under_top r t = go (ℕ_discrete r a)
    where
      go : Dec (r ≡ a) → merged a b (rt ps r) ≡ r
      go (yes e) = rw (e, rt-at ps f a ta) (merged-at a b ∙ sym (get_or-set_same ps a b a i) ∙ rw e at t)
      go (no n) =
          rw (rt-at ps f r (sym (get_or-set_other ps a r b r n) ∙ t))
          (merged-other a b r n)

  under-roots : (y : ℕ) → rt (set ps a b) y ≡ merged a b (rt ps y)
  under-roots y = rt-only (set ps a b) (set-falls ps a b f h) (λ x. merged a b (rt ps x)) under_same under_top y

either-max : (P : ℕ → Type 0) (a b : ℕ) → P a → P b → P (max a b)
either-max P a b p q = go (dec_lt a b)
  where
    go : Dec (a < b) → P (max a b)
    go (yes h) = subst P (sym (max-eq_right (omega arith))) q
    go (no n) = subst P (sym (max-eq_left (omega arith))) p

either-min : (P : ℕ → Type 0) (a b : ℕ) → P a → P b → P (min a b)
either-min P a b p q = go (dec_lt a b)
  where
    go : Dec (a < b) → P (min a b)
    go (yes h) = subst P (sym (min-eq_left (omega arith))) p
    go (no n) = subst P (sym (min-eq_right (omega arith))) q

-- a join of p and q
module _ (p : ℕ) (ps : List ℕ) (q : ℕ) (f : Falls ps) where
  -- what the two calls of `root` leave
  left : List ℕ
  left = (root_of (root_of ps p).parents q).parents

  left-kept : Kept ps left
  unfolding left
  left-kept =
      kept_trans ps (root_of ps p).parents left (root_kept ps p f) (root_kept (root_of ps p).parents q (root_kept ps p f).falls)

  second : (root_of (root_of ps p).parents q).answer ≡ rt ps q
  second = root_is (root_of ps p).parents q (root_kept ps p f).falls ∙ (root_kept ps p f).roots q

  joined_is : join_to p ps q ≡ set left (max (rt ps p) (rt ps q)) (min (rt ps p) (rt ps q))
  unfolding join_to left
  joined_is = rw (root_is ps p f, second)

  pub join-falls : Falls (join_to p ps q)
  join-falls = rw joined_is (set-falls left _ _ left-kept.falls (omega arith))

  pub join-sized : length (join_to p ps q) ≡ length ps
  join-sized = rw joined_is (length-set left _ _ ∙ left-kept.sized)

  top : (x : ℕ) → up left (rt ps x) ≡ rt ps x
  top x = rw (← left-kept.roots x) (rt-top left left-kept.falls x)

  pub join-roots : p < length ps → q < length ps → (y : ℕ) → rt (join_to p ps q) y ≡ merged (max (rt ps p) (rt ps q)) (min (rt ps p) (rt ps q)) (rt ps y)
  join-roots h k y =
      rw (joined_is, ← left-kept.roots y)
      (under-roots left left-kept.falls (max (rt ps p) (rt ps q)) (min (rt ps p) (rt ps q))
      (rw left-kept.sized (omega (arith, rt-low ps f p, rt-low ps f q)))
      (either-max (λ r. up left r ≡ r) (rt ps p) (rt ps q) (top p) (top q))
      (either-min (λ r. up left r ≡ r) (rt ps p) (rt ps q) (top p) (top q))
      (omega arith) y)

-- at the start every point is its own root
Own : ℕ → List ℕ → Type 0
Own i ps = (length ps ≡ 40) × ((x : ℕ) → x < i → up ps x ≡ x)

own-next : (i : ℕ) (ps : List ℕ) → i < 40 → Own i ps → Own (i + 1) (self_at i ps)
unfolding Own self_at
own-next i ps h p = (length-set ps i i ∙ p.0, go)
  where
    go : (x : ℕ) → x < i + 1 → up (set ps i i) x ≡ x
    go x l = at (ℕ_discrete x i)
      where
        at : Dec (x ≡ i) → up (set ps i i) x ≡ x
        at (yes e) = rw e (get_or-set_same ps i i i (rw p.0 h))
        at (no n) = get_or-set_other ps i x i x n ∙ p.1 x (omega arith)

pub alone-own : (length alone ≡ 40) × ((x : ℕ) → up alone x ≡ x)
unfolding Own
alone-own = (all.0, go)
  where
    all : Own 40 alone
    all = up_to-keeps Own self_at 40 own-next 0 (replicate 40 0) (omega arith) (refl, λ x h. absurd (not-suc-le-zero h))

    go : (x : ℕ) → up alone x ≡ x
    go x = at (dec_lt x 40)
      where
        at : Dec (x < 40) → up alone x ≡ x
        at (yes h) = all.1 x h
        at (no n) = get_or-eq_default alone x (rw all.0 (omega arith))

pub alone-falls : Falls alone
alone-falls x = rw (alone-own.1 x) (omega arith)
