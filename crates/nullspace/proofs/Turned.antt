-- A turn on the one list is the turn of the definition: on the list of the columns from k on, it leaves the reflector and the later
-- columns reflected. Assumes nothing.
use Prim.Native.Nat.{ℕ, suc, ◌+◌, ◌-◌, ◌<◌}
use mathlib.Core.Bool.{Bool, true, false, cond}
use mathlib.Core.List.{List, [], ◌∷◌, ◌++◌, map, flatten, append_assoc}
use mathlib.Core.Path.{◌≡◌, sym, ap, ◌∙◌}
use native.Mathlib.Nat.{add-zero}
use native.Mathlib.Omega.{arith}
use lib.Dec.{ltb}
use lib.ListN.{length, take, drop, set, replicate, length-append, length-drop, length-set, length-map, length-replicate, get_or-append}
use lib.Seq.{length-take-le, take_at, drop-cons, drop-append-le, drop-append-add, drop-set-add, get_or-drop, set-append_left}
use lib.Ieee.{Float, nan}
use Rattle.floats.specs.Magnitude.{magnitude_of}
use Rattle.floats.specs.Ops.{zero⁺}
use Rattle.loops.proofs.Keeps.{up_to-keeps}
use Rattle.loops.proofs.Picks.{of-cond}
use Rattle.loops.specs.Turns.{up_to}
use Rattle.loops.proofs.Turning.{up_to-part}
use Rattle.root.specs.Root.{sqrt_of}
use Rattle.solver.specs.Sums.{norm2_of}
use Rattle.nullspace.specs.Steps.{item, reflect_of, norm_of, longer, best_of, swapped, away, reflector_of, reflect_from}
use Rattle.nullspace.specs.Layout.{norm_at, longer_row, longest_of, swap_head, reflector_at, largest_norm, begun, turned}
use Rattle.nullspace.proofs.Flat.{Wide, wide-append, wide-take, wide-drop, wide-set, wide-map, wide_at, rest-is}
use Rattle.nullspace.proofs.Reflects.{reflect-length, rows-reflected}
use Rattle.nullspace.proofs.Swaps.{rows-swapped}

-- ---- the reflector is made in place of its column, with b behind it

module _ (n k : ℕ) (norm : Float) (c b : List Float) (wide : length c ≡ n) (h : k < n) where
  abbrev opened : List Float
  opened = replicate k zero⁺ ++ drop k c

  opened-long : length opened ≡ n
  opened-long = omega (arith, length-append (replicate k zero⁺) (drop k c), length-replicate k zero⁺, length-drop k c)

  in-front : replicate k zero⁺ ++ drop k (c ++ b) ≡ opened ++ b
  in-front = rw (drop-append-le k c b (omega arith)) (sym (append_assoc (replicate k zero⁺) (drop k c) b))

  head-is : away k norm (replicate k zero⁺ ++ drop k (c ++ b)) ≡ reflector_of k norm c ++ b
  unfolding away reflector_of
  head-is =
      let g : k < length opened = omega (arith, opened-long) in
      rw (in-front, get_or-append opened b nan k g) (set-append_left opened b k _ g)

  reflector-long : length (reflector_of k norm c) ≡ n
  unfolding away reflector_of
  reflector-long = length-set opened k _ ∙ opened-long

-- ---- the columns from k on

swap-past : (k p : ℕ) (cols : List (List Float)) → drop k (swapped k (k + p) cols) ≡ swapped 0 p (drop k cols)
unfolding swapped
swap-past k p cols =
    let a : List Float = item cols (k + p) in
    let first : drop k (set cols k a) ≡ set (drop k cols) 0 a = rw add-zero at (drop-set-add k cols 0 a) in
    let own : item (drop k cols) 0 ≡ item cols k = rw add-zero at (get_or-drop k cols 0 []) in
    drop-set-add k (set cols k a) p (item cols k) ∙ rw (first, own, get_or-drop k cols p [])

module _ (n k : ℕ) (cols : List (List Float)) (wide : Wide n cols) (below : k < n) (within : k < length cols) where
  abbrev t : List Float
  t = flatten (drop k cols)

  abbrev m : ℕ
  m = length cols - k

  abbrev place : ℕ
  place = longest_of n m k t

  abbrev best : ℕ
  best = best_of k cols

  abbrev pub norm : Float
  norm = norm_of k cols best

  abbrev swap : List (List Float)
  swap = swapped k best cols

  abbrev pub v : List Float
  v = reflector_of k norm (item swap k)

  norm-is : (p : ℕ) → norm_at n k t p ≡ norm_of k cols (k + p)
  unfolding norm_at norm_of
  norm-is p = ap (λ r. sqrt_of (norm2_of r)) (rest-is n k p (drop k cols) (wide-drop n k cols wide) ∙ ap (drop k) (get_or-drop k cols p []))

  longer-is : (i p : ℕ) → longer k cols (k + i) (k + p) ≡ k + longer_row n k t i p
  unfolding longer longer_row
  longer-is i p = rw (norm-is i, norm-is p) (of-cond (λ q. k + q) (ltb (magnitude_of (norm_of k cols (k + p))) (magnitude_of (norm_of k cols (k + i)))) i p)

  best-is : best ≡ k + place
  unfolding best_of longest_of
  best-is =
      let e : k + m ≡ length cols = omega arith in
      rw (e, add-zero) at (up_to-part (λ p. k + p) k (longer k cols) (longer_row n k t) longer-is m 1 0)

  one_of : (b : Bool) (q p : ℕ) → q < m → p < m → cond b q p < m
  one_of true q p h g = h
  one_of false q p h g = g

  longer-in : (q p : ℕ) → q < m → p < m → longer_row n k t q p < m
  unfolding longer_row
  longer-in q p h g = one_of (ltb (magnitude_of (norm_at n k t p)) (magnitude_of (norm_at n k t q))) q p h g

  place_in : place < m
  unfolding longest_of
  place_in = up_to-keeps (λ i p. p < m) (longer_row n k t) m longer-in 1 0 (omega arith) (omega arith)

  swap_is : drop k swap ≡ swapped 0 place (drop k cols)
  swap_is = ap (λ q. drop k (swapped k q cols)) best-is ∙ swap-past k place cols

  best-in : best < length cols
  best-in = omega (arith, best-is, place_in)

  pub swap-wide : Wide n swap
  unfolding swapped
  swap-wide =
      let a : List Float = item cols best in
      wide-set n (set cols k a) best (item cols k) (wide_at n cols k within wide) (wide-set n cols k a (wide_at n cols best best-in wide) wide)

  swap-long : length swap ≡ length cols
  unfolding swapped
  swap-long = let a : List Float = item cols best in length-set (set cols k a) best (item cols k) ∙ length-set cols k a

  abbrev others : List (List Float)
  others = drop (suc k) swap

  swap-head : drop k swap ≡ item swap k ∷ others
  swap-head = drop-cons swap k [] (rw swap-long within)

  column-long : length (item swap k) ≡ n
  column-long = wide_at n swap k (rw swap-long within) swap-wide

  pub v-long : length v ≡ n
  v-long = reflector-long n k norm (item swap k) [] column-long below

  rows-are-swapped : up_to n 0 (swap_head n place) t ≡ item swap k ++ flatten others
  unfolding flatten
  rows-are-swapped =
      rows-swapped n place (drop k cols) (rw length-drop place_in) (wide-drop n k cols wide) ∙ ap flatten (sym swap_is ∙ swap-head)

  pub norm-found : largest_norm n m k t ≡ norm
  unfolding largest_norm
  norm-found = norm-is place ∙ ap (norm_of k cols) (sym best-is)

  pub begun-is : begun n m k t ≡ v ++ flatten others
  unfolding begun reflector_at
  begun-is = rw (norm-found, rows-are-swapped) (head-is n k norm (item swap k) (flatten others) column-long below)

  pub square-is : norm2_of (take n (begun n m k t)) ≡ norm2_of v
  square-is = ap norm2_of (ap (take n) begun-is ∙ take_at v (flatten others) n v-long)

  pub turned-is : turned n m k t ≡ v ++ flatten (map (reflect_of v (norm2_of v)) others)
  unfolding turned
  turned-is =
      let e : m ≡ suc (length others) = omega (arith, length-drop (suc k) swap, swap-long) in
      rw (square-is, begun-is) (rw e (rows-reflected n v (norm2_of v) v-long others (wide-drop n (suc k) swap swap-wide)))

  -- what the definition's turn leaves
  abbrev pub left : List (List Float)
  left = reflect_from k v (norm2_of v) swap

  pub left_is : drop (k + 1) left ≡ map (reflect_of v (norm2_of v)) others
  unfolding reflect_from
  left_is =
      let e : length (take k swap) ≡ k = length-take-le k swap (omega (arith, swap-long)) in
      rw swap-head (rw e at (drop-append-add (take k swap) (map (reflect_of v (norm2_of v)) (item swap k ∷ others)) 1))

  pub left-wide : Wide n left
  unfolding reflect_from
  left-wide =
      let f : List Float → List Float = reflect_of v (norm2_of v) in
      wide-append n (take k swap) (map f (drop k swap)) (wide-take n k swap swap-wide) (wide-map n f (λ c e. reflect-length v (norm2_of v) c (v-long ∙ sym e) ∙ e) (drop k swap) (wide-drop n k swap swap-wide))

  pub left-long : length left ≡ length cols
  unfolding reflect_from
  left-long =
      let f : List Float → List Float = reflect_of v (norm2_of v) in
      omega (arith, length-append (take k swap) (map f (drop k swap)), length-map (drop k swap) f, length-take-le k swap (omega (arith, swap-long)), length-drop k swap, swap-long)
