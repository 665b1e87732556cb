-- The first row of the one list and row p change places, number by number. Assumes nothing.
use Prim.Native.Nat.{ℕ, zero, suc, ◌+◌, ◌*◌, ◌≤◌, ◌<◌}
use mathlib.Core.List.{List, [], ◌∷◌, ◌++◌, flatten, append-nil, append_assoc}
use mathlib.Core.Path.{◌≡◌, refl, sym, ap, ◌∙◌}
use native.Mathlib.Nat.{zero-add, zero-mul, not-suc-le-zero, le_of_suc-le-suc}
use native.Mathlib.Omega.{arith}
use lib.ListN.{length, get_or, take, drop, set, length-append, drop_of_length-le, get_or-append}
use lib.Seq.{length-take-le, take_all, set-append_left, set_split, set-get_or, split_at}
use lib.Ieee.{Float, nan}
use Rattle.floats.specs.Lists.{swap_at}
use Rattle.loops.proofs.Keeps.{up_to-keeps}
use Rattle.loops.proofs.Parts.{get-past, set_past}
use Rattle.loops.specs.Turns.{up_to}
use Rattle.nullspace.specs.Steps.{item, swapped}
use Rattle.nullspace.specs.Layout.{swap_head}
use Rattle.nullspace.proofs.Zips.{mixed, mixed-get, mixed-set, mixed-long}
use Rattle.nullspace.proofs.Flat.{Wide, wide_at, wide-take, length-flatten, flatten-append}

module _ (n p : ℕ) (x a y b : List Float) (long : length x ≡ n) (also : length y ≡ n) (off : length (x ++ a) ≡ p * n) where
  -- after i numbers
  abbrev halfway : ℕ → List Float
  halfway i = mixed i y x ++ (a ++ (mixed i x y ++ b))

  module _ (i : ℕ) (h : i < n) where
    abbrev l : List Float
    l = mixed i y x

    abbrev r : List Float
    r = mixed i x y

    one_way : length l ≡ n
    one_way = mixed-long i y x (omega arith) (omega arith) ∙ long

    other_way : length r ≡ n
    other_way = mixed-long i x y (omega arith) (omega arith) ∙ also

    front : length (l ++ a) ≡ p * n
    front = omega (arith, one_way, off, length-append x a, length-append l a)

    get_first : get_or (halfway i) i nan ≡ get_or x i nan
    get_first = get_or-append l (a ++ (r ++ b)) nan i (omega (arith, one_way)) ∙ mixed-get i y x (omega arith) (omega arith)

    get_other : get_or (halfway i) (p * n + i) nan ≡ get_or y i nan
    get_other =
        rw (← append_assoc l a (r ++ b))
        (get-past (l ++ a) (r ++ b) (p * n) i nan front ∙ get_or-append r b nan i (omega (arith, other_way)) ∙ mixed-get i x y (omega arith) (omega arith))

    set_other : set (halfway i) (p * n + i) (get_or x i nan) ≡ l ++ (a ++ (mixed (i + 1) x y ++ b))
    set_other =
        rw (← append_assoc l a (r ++ b))
        (set_past (l ++ a) (r ++ b) (p * n) i (get_or x i nan) front
        ∙ ap (λ s. l ++ a ++ s) (set-append_left r b i (get_or x i nan) (omega (arith, other_way)) ∙ ap (λ s. s ++ b) (mixed-set i x y (omega arith) (omega arith)))
        ∙ append_assoc l a (mixed (i + 1) x y ++ b))

    set_first : (c : List Float) → set (l ++ c) i (get_or y i nan) ≡ mixed (i + 1) y x ++ c
    set_first c = set-append_left l c i (get_or y i nan) (omega (arith, one_way)) ∙ ap (λ s. s ++ c) (mixed-set i y x (omega arith) (omega arith))

    turn : swap_head n p i (halfway i) ≡ halfway (i + 1)
    unfolding swap_head swap_at
    turn = rw (get_first, get_other, set_other) (set_first _)

  changed : up_to n 0 (swap_head n p) (x ++ (a ++ (y ++ b))) ≡ y ++ (a ++ (x ++ b))
  changed =
      let u : length x ≤ n = omega arith in
      let v : length y ≤ n = omega arith in
      up_to-keeps (λ i s. s ≡ halfway i) (swap_head n p) n (λ i s h e. rw e (turn i h)) 0 (x ++ (a ++ (y ++ b))) (omega arith) refl
      ∙ rw (take_all n y v, take_all n x u, drop_of_length-le x u, drop_of_length-le y v, append-nil y, append-nil x)

itself : (n i : ℕ) (s : List Float) → swap_head n 0 i s ≡ s
unfolding swap_head swap_at
itself n i s = rw (zero-mul, zero-add) (ap (λ r. set r i (get_or s i nan)) (set-get_or s i nan) ∙ set-get_or s i nan)

-- the rows before and after row q
parts : (l : List (List Float)) (q : ℕ) → q < length l → flatten l ≡ flatten (take q l) ++ (item l q ++ flatten (drop (suc q) l))
unfolding flatten
parts l q h = ap flatten (split_at l q [] h) ∙ flatten-append (take q l) (item l q ∷ drop (suc q) l)

parts-set : (l : List (List Float)) (q : ℕ) (c : List Float) → q < length l → flatten (set l q c) ≡ flatten (take q l) ++ (c ++ flatten (drop (suc q) l))
unfolding flatten
parts-set l q c h = ap flatten (set_split l q c h) ∙ flatten-append (take q l) (c ∷ drop (suc q) l)

pub rows-swapped : (n p : ℕ) (l : List (List Float)) → p < length l → Wide n l → up_to n 0 (swap_head n p) (flatten l) ≡ flatten (swapped 0 p l)
unfolding swapped flatten
rows-swapped n p [] h w = absurd (not-suc-le-zero h)
rows-swapped n zero (x ∷ l) h w = up_to-keeps (λ i s. s ≡ flatten (x ∷ l)) (swap_head n 0) n (λ i s k e. itself n i s ∙ e) 0 (flatten (x ∷ l)) (omega arith) refl
rows-swapped n (suc q) (x ∷ l) h w =
    let k : q < length l = le_of_suc-le-suc h in
    let a : List Float = flatten (take q l) in
    let off : length (x ++ a) ≡ suc q * n = omega (arith, w.0, length-append x a, length-flatten n (take q l) (wide-take n q l w.1), ap (λ i. i * n) (length-take-le q l (omega arith))) in
    ap (λ s. up_to n 0 (swap_head n (suc q)) (x ++ s)) (parts l q k)
    ∙ changed n (suc q) x a (item l q) (flatten (drop (suc q) l)) w.0 (wide_at n l q k w.1) off
    ∙ ap (λ s. item l q ++ s) (sym (parts-set l q x k))
