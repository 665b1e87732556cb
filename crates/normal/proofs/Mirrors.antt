-- Matrices whose numbers are put in two places each: the product, and a half that is spread.
--     product-made   the product's number at (lo, hi) and at (hi, lo) is that of rows lo and hi
--     back           a half spread is the matrix that has the half's numbers so
--     any-start      whatever it is spread over
-- Assumes nothing.
use Prim.Native.Nat.{ℕ, ◌+◌, ◌*◌, ◌/◌, ◌%◌, ◌≤◌, ◌<◌}
use mathlib.Core.List.{List}
use mathlib.Core.Logic.{◌↔◌, ◌⊎◌, inl, inr}
use mathlib.Core.Path.{◌≡◌, refl, sym, ◌∙◌}
use native.Mathlib.Decide.{ℕ_discrete, dec_le, dec_lt}
use native.Mathlib.Nat.{le_refl, eq_of_mul-eq-mul_right, div-add-mod', div-lt_iff_lt-mul, mod-lt}
use native.Mathlib.Omega.{arith}
use lib.Ieee.{Float, nan}
use lib.ListN.{length, get_or, set, replicate, length-set, length-replicate}
use lib.Seq.{get_or-set_same, get_or-set_other, set_comm, ext_get_or}
use Rattle.floats.specs.Ops.{zero⁺}
use Rattle.loops.specs.Turns.{up_to}
use Rattle.loops.proofs.Cells.{cell-column, cell_row}
use Rattle.loops.proofs.Keeps.{up_to-keeps}
use Rattle.normal.specs.Half.{half_place, spread_one, spread_row, spread_of}
use Rattle.normal.specs.Normal.{rows_product, set_both, pair_of, pairs_of, product_of}

-- two places that are one place
one_cell : (n p q r c : ℕ) → q < n → c < n → p * n + q ≡ r * n + c → (p ≡ r) × (q ≡ c)
one_cell n p q r c h k e =
    let f : q ≡ c = cell-column n p q r c h k e in
    (eq_of_mul-eq-mul_right n (omega arith) p r (omega (arith, e, f)), f)

both_ways : (rows i k : ℕ) (s : Float) (a : List Float) → set_both rows i k s a ≡ set_both rows k i s a
unfolding set_both
both_ways rows i k s a = elim (ℕ_discrete (i * rows + k) (k * rows + i)) [
  | yes e ↦ rw e
  | no n ↦ set_comm a (i * rows + k) (k * rows + i) s s n
]

-- one number in two places
two-places : (a : List Float) (s t x : ℕ) (u w : Float) → s < length a → t < length a → ((x ≡ s) ⊎ (x ≡ t) → u ≡ w) → (((x ≡ s) ⊎ (x ≡ t) → ⊥) → get_or a x nan ≡ w)
    → get_or (set (set a s u) t u) x nan ≡ w
two-places a s t x u w hs ht here there = elim (ℕ_discrete x t) [
  | yes e ↦ rw e (get_or-set_same (set a s u) t u nan (rw length-set ht)) ∙ here (inr e)
  | no n ↦ get_or-set_other (set a s u) t x u nan n ∙ (elim (ℕ_discrete x s) [
    | yes e ↦ rw e (get_or-set_same a s u nan hs) ∙ here (inl e)
    | no m ↦ get_or-set_other a s x u nan m ∙ there (λ q. elim q [ inl e ↦ m e | inr e ↦ n e ])
  ])
]

-- f lo hi is the number of (lo, hi) and of (hi, lo), where lo ≤ hi
module _ (rows : ℕ) (f : ℕ → ℕ → Float) where
  abbrev pub Both : List Float → ℕ → ℕ → Type 0
  Both a lo hi = (get_or a (lo * rows + hi) nan ≡ f lo hi) × (get_or a (hi * rows + lo) nan ≡ f lo hi)

  -- a matrix that holds those of which D holds
  pub record Has (D : ℕ → ℕ → Type 0) (a : List Float) : Type 0 where
    pub long : length a ≡ rows * rows
    pub cells : (lo hi : ℕ) → lo ≤ hi → hi < rows → D lo hi → Both a lo hi

  abbrev pub Full : List Float → Type 0
  Full a = Has (λ lo hi. hi < rows) a

  -- a pair that is put: E holds of it and of those of which D holds
  module _ (D E : ℕ → ℕ → Type 0) (a : List Float) (n m : ℕ) (order : n ≤ m) (within : m < rows) (more : (lo hi : ℕ) → lo ≤ hi → E lo hi → D lo hi ⊎ ((lo ≡ n) × (hi ≡ m)))
      (h : Has D a) where
    low : n < rows
    low = omega (arith, order, within)

    in-matrix : (p q : ℕ) → p < rows → q < rows → p * rows + q < length a
    in-matrix p q hp hq = rw h.long (omega (arith, cell_row rows rows p (rows * rows) hp (le_refl _), hq))

    -- a place x that is one of the two exactly where (lo, hi) is that pair
    after-put : (lo hi x : ℕ) → lo ≤ hi → E lo hi → ((x ≡ n * rows + m) ⊎ (x ≡ m * rows + n) ↔ (lo ≡ n) × (hi ≡ m)) → (D lo hi → get_or a x nan ≡ f lo hi)
        → get_or (set_both rows n m (f n m) a) x nan ≡ f lo hi
    unfolding set_both
    after-put lo hi x l e is old =
        two-places a (n * rows + m) (m * rows + n) x (f n m) (f lo hi) (in-matrix n m low within) (in-matrix m n within low)
        (λ q. let s = is.0 q in rw (s.0, s.1))
        (λ apart. elim (more lo hi l e) [ inl d ↦ old d | inr q ↦ absurd (apart (is.1 q)) ])

    above-is : (lo hi : ℕ) → lo ≤ hi → hi < rows → (lo * rows + hi ≡ n * rows + m) ⊎ (lo * rows + hi ≡ m * rows + n) ↔ (lo ≡ n) × (hi ≡ m)
    above-is lo hi l k = (
      λ q. elim q [
        | inl e ↦ one_cell rows lo hi n m k within e
        | inr e ↦ (let c = one_cell rows lo hi m n k low e in (omega (arith, c.0, c.1, l, order), omega (arith, c.0, c.1, l, order)))
      ],
      λ c. inl (rw (c.0, c.1)),
    )

    below-is : (lo hi : ℕ) → lo ≤ hi → hi < rows → (hi * rows + lo ≡ n * rows + m) ⊎ (hi * rows + lo ≡ m * rows + n) ↔ (lo ≡ n) × (hi ≡ m)
    below-is lo hi l k =
        let lo-in : lo < rows = omega (arith, l, k) in (
          λ q. elim q [
            | inl e ↦ (let c = one_cell rows hi lo n m lo-in within e in (omega (arith, c.0, c.1, l, order), omega (arith, c.0, c.1, l, order)))
            | inr e ↦ (let c = one_cell rows hi lo m n lo-in low e in (c.1, c.0))
          ],
          λ c. inr (rw (c.0, c.1)),
        )

    put : Has E (set_both rows n m (f n m) a)
    unfolding set_both
    put = record {
      long = rw (length-set, length-set) h.long;
      cells = λ lo hi l k e. (
        after-put lo hi (lo * rows + hi) l e (above-is lo hi l k) (λ d. (h.cells lo hi l k d).0),
        after-put lo hi (hi * rows + lo) l e (below-is lo hi l k) (λ d. (h.cells lo hi l k d).1),
      );
    }

  -- the same pairs, otherwise said
  told : (D E : ℕ → ℕ → Type 0) (a : List Float) → ((lo hi : ℕ) → lo ≤ hi → hi < rows → E lo hi → D lo hi) → Has D a → Has E a
  told D E a w h = record { long = h.long; cells = λ lo hi l k e. h.cells lo hi l k (w lo hi l k e) }

  -- two that hold all of them are one
  only-matrix : (a b : List Float) → Full a → Full b → a ≡ b
  only-matrix a b h k = ext_get_or nan a b (h.long ∙ sym k.long) (λ x l. at x (rw h.long at l))
    where
      at : (x : ℕ) → x < rows * rows → get_or a x nan ≡ get_or b x nan
      at x l =
          let positive : 0 < rows = elim (dec_lt 0 rows) [ yes p ↦ p | no n ↦ (let z : rows ≡ 0 = omega (arith, n) in absurd (omega (arith, rw z at l))) ] in
          let column : x % rows < rows = mod-lt x positive in
          let row : x / rows < rows = (div-lt_iff_lt-mul positive).1 l in
          rw (← div-add-mod' x rows)
          (elim (dec_le (x / rows) (x % rows)) [
            | yes o ↦ (h.cells (x / rows) (x % rows) o column column).0 ∙ sym (k.cells (x / rows) (x % rows) o column column).0
            | no o ↦ (h.cells (x % rows) (x / rows) (omega (arith, o)) row row).1 ∙ sym (k.cells (x % rows) (x / rows) (omega (arith, o)) row row).1
          ])

-- ---- the product and a half that is spread

-- the pairs whose one number is below i, or is i where the other is below k: those before turn k of turn i
abbrev Before : ℕ → ℕ → ℕ → ℕ → Type 0
Before i k p q = (p < i) ⊎ ((p ≡ i) × (q < k))

-- one turn more
last_turn : (i k p q : ℕ) → Before i (k + 1) p q → Before i k p q ⊎ ((p ≡ i) × (q ≡ k))
last_turn i k p q (inl h) = inl (inl h)
last_turn i k p q (inr h) = elim (dec_lt q k) [ yes l ↦ inl (inr (h.0, l)) | no n ↦ inr (h.0, omega (arith, h.1, n)) ]

-- all turns of turn i
next-turn : (i n p q : ℕ) → q < n → p < i + 1 → Before i n p q
next-turn i n p q h k = elim (dec_lt p i) [ yes l ↦ inl l | no l ↦ inr (omega (arith, k, l), h) ]

-- none of them, where no q is below the first
no-turn : (i k p q : ℕ) → (p ≡ i → k ≤ q) → Before i k p q → p < i
no-turn i k p q none (inl h) = h
no-turn i k p q none (inr h) = absurd (omega (arith, h.1, none h.0))

module _ (rows nf : ℕ) (j : List Float) where
  abbrev Made : (ℕ → ℕ → Type 0) → List Float → Type 0
  Made D a = Has rows (rows_product nf j) D a

  row_made : (i : ℕ) (a : List Float) → i < rows → Made (λ lo hi. lo < i) a → Made (λ lo hi. lo < i + 1) (pairs_of rows nf j i a)
  unfolding pairs_of pair_of
  row_made i a h d =
      told rows (rows_product nf j) (Before i rows) (λ lo hi. lo < i + 1) _ (λ lo hi l k e. next-turn i rows lo hi k e)
      (up_to-keeps (λ k s. (i ≤ k) × Made (Before i k) s) (pair_of rows nf j i) rows
      (λ k s q c. (omega (arith, c.0), put rows (rows_product nf j) (Before i k) (Before i (k + 1)) s i k c.0 q (λ lo hi l e. last_turn i k lo hi e) c.1))
      i a (omega (arith, h))
      (le_refl i, told rows (rows_product nf j) (λ lo hi. lo < i) (Before i i) a (λ lo hi l k e. no-turn i i lo hi (λ z. omega (arith, z, l)) e) d)).1

  pub product-made : Full rows (rows_product nf j) (product_of rows nf j)
  unfolding product_of
  product-made =
      told rows (rows_product nf j) (λ lo hi. lo < rows) (λ lo hi. hi < rows) _ (λ lo hi l k e. omega (arith, l, k))
      (up_to-keeps (λ i a. Made (λ lo hi. lo < i) a) (pairs_of rows nf j) rows (λ i s h c. row_made i s h c) 0 _ (omega arith)
      (record { long = length-replicate _ _; cells = λ lo hi l k e. absurd (omega (arith, e)) }))

-- a half of which f says what it has
module _ (rows : ℕ) (f : ℕ → ℕ → Float) (h : List Float) (reads : (lo hi : ℕ) → lo ≤ hi → hi < rows → get_or h (half_place hi lo) nan ≡ f lo hi) where
  pair-spread : (i k : ℕ) (s : List Float) → i < rows → k < i + 1 → Has rows f (λ lo hi. Before i k hi lo) s → Has rows f (λ lo hi. Before i (k + 1) hi lo) (spread_one rows h i k s)
  unfolding spread_one
  pair-spread i k s l q c =
      let order : k ≤ i = omega (arith, q) in
      rw (both_ways rows i k (get_or h (half_place i k) nan) s, reads k i order l)
      (put rows f (λ lo hi. Before i k hi lo) (λ lo hi. Before i (k + 1) hi lo) s k i order l
      (λ lo hi o e. elim (last_turn i k hi lo e) [ inl d ↦ inl d | inr z ↦ inr (z.1, z.0) ]) c)

  row-spread : (i : ℕ) (a : List Float) → i < rows → Has rows f (λ lo hi. hi < i) a → Has rows f (λ lo hi. hi < i + 1) (spread_row rows h i a)
  unfolding spread_row
  row-spread i a l d =
      told rows f (λ lo hi. Before i (i + 1) hi lo) (λ lo hi. hi < i + 1) _ (λ lo hi o k e. next-turn i (i + 1) hi lo (omega (arith, o, e)) e)
      (up_to-keeps (λ k s. Has rows f (λ lo hi. Before i k hi lo) s) (spread_one rows h i) (i + 1) (λ k s q c. pair-spread i k s l q c)
      0 a (omega arith) (told rows f (λ lo hi. hi < i) (λ lo hi. Before i 0 hi lo) a (λ lo hi o k e. no-turn i 0 hi lo (λ z. omega arith) e) d))

  spread-made : (a : List Float) → length a ≡ rows * rows → Full rows f (up_to rows 0 (spread_row rows h) a)
  spread-made a long =
      up_to-keeps (λ i a. Has rows f (λ lo hi. hi < i) a) (spread_row rows h) rows (λ i s q c. row-spread i s q c) 0 a (omega arith)
      (record { long = long; cells = λ lo hi l k e. absurd (omega (arith, e)) })

pub back : (rows : ℕ) (f : ℕ → ℕ → Float) (h a : List Float) → ((lo hi : ℕ) → lo ≤ hi → hi < rows → get_or h (half_place hi lo) nan ≡ f lo hi) → Full rows f a → spread_of rows h ≡ a
unfolding spread_of
back rows f h a reads full = only-matrix rows f _ _ (spread-made rows f h reads (replicate (rows * rows) zero⁺) (length-replicate _ _)) full

pub any-start : (rows : ℕ) (h w : List Float) → length w ≡ rows * rows → up_to rows 0 (spread_row rows h) w ≡ spread_of rows h
any-start rows h w long =
    let f : ℕ → ℕ → Float = λ lo hi. get_or h (half_place hi lo) nan in
    sym (back rows f h _ (λ lo hi l k. refl) (spread-made rows f h (λ lo hi l k. refl) w long))
