-- The loop that puts where each point starts, two numbers a turn. Assumes nothing.
use Prim.Native.Nat.{ℕ, suc, ◌+◌, ◌*◌, ◌≤◌, ◌<◌}
use mathlib.Core.List.{List, [], ◌∷◌, ◌++◌, append_assoc}
use mathlib.Core.Path.{◌≡◌, refl, sym, ◌∙◌}
use native.Mathlib.Numerals.{add-one}
use native.Mathlib.Omega.{arith}
use borrow.Author.Tests.{lt-leb}
use lib.Ieee.{Float}
use lib.ListN.{length, get_or, take, drop, set, length-take, length-map, get_or-map}
use lib.Seq.{take-suc, take_all, drop-cons, set_at}
use Rattle.loops.proofs.Parts.{set_past}
use Rattle.plane.specs.declared.Vec2.{Vec2}
use Rattle.sketch.specs.declared.Point.{Point}
use Rattle.members.specs.Movable.{nowhere, points_at}
use Rattle.members.specs.Scale.{scaled_of, start_of, start_in}
use Rattle.members.proofs.Readings.{start-length, starts}

-- two stores past what is written
two-sets : {A : Type 0} (d : A) (a l : List A) (n : ℕ) (u v : A) → length a ≡ n → n + 1 < length l
    → set (set (a ++ drop n l) n u) (n + 1) v ≡ (a ++ u ∷ v ∷ []) ++ drop (n + 2) l
two-sets d a l n u v e h =
    let m : suc (suc n) ≡ n + 2 = omega arith in
    let first : drop n l ≡ get_or l n d ∷ drop (suc n) l = drop-cons l n d (omega arith) in
    let second : drop (suc n) l ≡ get_or l (suc n) d ∷ drop (n + 2) l = rw m at (drop-cons l (suc n) d (omega arith)) in
    rw (first, second, set_at a (get_or l n d) (get_or l (suc n) d ∷ drop (n + 2) l) u n e, set_past a (u ∷ get_or l (suc n) d ∷ drop (n + 2) l) n 1 v e, append_assoc)

module _ (centre : Vec2) (size : Float) where
  start-append : (ps qs : List Point) → start_of centre size (ps ++ qs) ≡ start_of centre size ps ++ start_of centre size qs
  unfolding start_of
  start-append [] qs = refl
  start-append (p ∷ ps) qs = rw (start-append ps qs)

  start-one : (p : Point) → start_of centre size (p ∷ []) ≡ (scaled_of centre size p).x ∷ (scaled_of centre size p).y ∷ []
  unfolding start_of
  start-one p = refl

  pub start-turn : (d : Point) (pts : List Point) (p : Point) (k : ℕ) (x x₀ : List Float) (s : Vec2) → k < length pts → 2 * k + 1 < length x₀ → p ≡ get_or pts k d
      → s ≡ scaled_of centre size p → x ≡ start_of centre size (take k pts) ++ drop (2 * k) x₀
      → set (set x (2 * k) s.x) (2 * k + 1) s.y ≡ start_of centre size (take (k + 1) pts) ++ drop (2 * (k + 1)) x₀
  start-turn d pts p k x x₀ s h n q e t =
      let written : start_of centre size (take (k + 1) pts) ≡ start_of centre size (take k pts) ++ s.x ∷ s.y ∷ [] =
      rw (add-one, take-suc pts k d h, start-append (take k pts) (get_or pts k d ∷ []), start-one (get_or pts k d), e, q) in
      let long : length (start_of centre size (take k pts)) ≡ 2 * k = omega (arith, start-length centre size (take k pts), length-take k pts) in
      let m : 2 * k + 2 ≡ 2 * (k + 1) = omega arith in
      rw (t, written) (rw m at (two-sets s.x (start_of centre size (take k pts)) x₀ (2 * k) s.x s.y long n))

  pub start-done : (pts : List Point) (n k : ℕ) (x x₀ : List Float) → length pts ≡ n → n ≤ k → k ≤ n → x ≡ start_of centre size (take k pts) ++ drop (2 * k) x₀
      → x ≡ start_of centre size pts ++ drop (2 * n) x₀
  start-done pts n k x x₀ e h l t = let q : k ≡ n = omega arith in t ∙ rw (take_all k pts (omega arith), q)

-- of the points that are listed
module _ (points : List Point) (items : List ℕ) where
  abbrev at : ℕ → Point
  at p = get_or points p nowhere

  pub points-length : length (points_at points items) ≡ length items
  points-length = length-map items at

  pub point-here : (k d : ℕ) → at (get_or items k d) ≡ get_or (points_at points items) k (at d)
  point-here k d = sym (get_or-map at items k d)

  module _ (ps : List ℕ) (e : items ≡ ps) (centre : Vec2) (size : Float) (x : List Float) where
    pub started : (k : ℕ) (x' : List Float) → length items ≤ k → k ≤ length items → 2 * length items ≤ length x
        → x' ≡ start_of centre size (take k (points_at points items)) ++ drop (2 * k) x → x' ≡ start_in centre size (points_at points ps) x
    started k x' l m h q =
        let n = length items in
        let all : x' ≡ start_of centre size (points_at points items) ++ drop (2 * n) x = start-done centre size (points_at points items) n k x' x points-length l m q in
        rw (← e) (all ∙ sym (rw points-length at (starts centre size (points_at points items) x (rw points-length h))))

    pub too-short : length x < 2 * length items → x ≡ start_in centre size (points_at points ps) x
    unfolding start_in
    too-short h = rw (← e, points-length, lt-leb (2 * length items) (length x) h)
