-- `reflect` on a row of the one list whose first row is the reflector v is `reflect` on that row. Assumes nothing.
--     reflect-length    a row that is reflected stays as long
--     rows-reflected    each later row reflected, one after another
use Prim.Native.Nat.{ℕ, suc, ◌+◌, ◌-◌, ◌*◌, ◌<◌}
use mathlib.Core.List.{List, [], ◌∷◌, ◌++◌, map, zip_with, flatten, append-nil, append_assoc}
use mathlib.Core.Path.{◌≡◌, refl, sym, ap, ◌∙◌}
use native.Mathlib.Omega.{arith}
use lib.ListN.{length, set, length-append, length-set, get_or-append}
use lib.Seq.{set-append_left}
use lib.Ieee.{Float, nan, ne}
use Rattle.floats.specs.Ops.{◌⊖◌, ◌⊗◌, ◌⊘◌, zero⁺, zero⁻, two}
use Rattle.loops.proofs.Both.{up_to-both, up_to-same}
use Rattle.loops.proofs.Parts.{get-past, set_past}
use Rattle.loops.proofs.Picks.{either, of-cond}
use Rattle.loops.specs.Turns.{turns, up_to}
use Rattle.solver.specs.Steps.{at, less_by, less_past}
use Rattle.nullspace.specs.Steps.{dot_of, less_all, reflect_of}
use Rattle.nullspace.specs.Layout.{add_product, add_product_at, dot_at, less_row_at, reflect_at, reflected_by}
use Rattle.nullspace.proofs.Flat.{Wide}
use Rattle.nullspace.proofs.Zips.{zip-long, zip-dot, zip-less}

-- a function of what a test picks
-- ---- a row that is reflected stays as long

less-length : (v : List Float) (f : Float) (c : List Float) → length v ≡ length c → length (less_all v f c) ≡ length c
unfolding less_all
less-length v f c e =
    let g : Float → Float → Float = λ ci vi. ci ⊖ f ⊗ vi in
    either (λ l. length l ≡ length c) (ne f zero⁺) (zip_with g c v) c (zip-long g c v (sym e)) refl

pub reflect-length : (v : List Float) (vv : Float) (c : List Float) → length v ≡ length c → length (reflect_of v vv c) ≡ length c
unfolding reflect_of
reflect-length v vv c e = less-length v (two ⊗ dot_of v c ⊘ vv) c e

-- ---- the row c, the j-th, with v before it at the head, p between them and b behind it

module _ (n j : ℕ) (v p b : List Float) (wide : length v ≡ n) (front : length (v ++ p) ≡ j * n) where
  abbrev whole : List Float → List Float
  whole c = v ++ (p ++ (c ++ b))

  parted : (c : List Float) → whole c ≡ v ++ p ++ (c ++ b)
  parted c = sym (append_assoc v p (c ++ b))

  get-v : (c : List Float) (i : ℕ) → i < n → at (whole c) i ≡ at v i
  get-v c i h = get_or-append v (p ++ (c ++ b)) nan i (rw wide h)

  get-c : (c : List Float) (i : ℕ) → i < length c → at (whole c) (j * n + i) ≡ at c i
  get-c c i h = rw (parted c) (get-past (v ++ p) (c ++ b) (j * n) i nan front ∙ get_or-append c b nan i h)

  set-c : (c : List Float) (i : ℕ) (x : Float) → i < length c → set (whole c) (j * n + i) x ≡ whole (set c i x)
  set-c c i x h = rw (parted c) (set_past (v ++ p) (c ++ b) (j * n) i x front ∙ ap (λ r. v ++ p ++ r) (set-append_left c b i x h) ∙ append_assoc v p (set c i x ++ b))

  module _ (c : List Float) (same : length c ≡ n) where
    product : (i : ℕ) (s : Float) → i < n → add_product_at n j (whole c) i s ≡ add_product v c i s
    unfolding add_product_at add_product
    product i s h = rw (get-v c i h, get-c c i (rw same h))

    dot-is : dot_at n j (whole c) ≡ dot_of v c
    unfolding dot_at
    dot-is = up_to-same (add_product_at n j (whole c)) (add_product v c) 0 n (λ i s h. product i s) zero⁻ ∙ zip-dot n v c wide same

    less : (f : Float) (i : ℕ) (s t : List Float) → i < n → (s ≡ whole t) × (length t ≡ n) → (less_past (j * n) f i s ≡ whole (less_by v f i t)) × (length (less_by v f i t) ≡ n)
    unfolding less_past less_by
    less f i s t h e = (rw (e.0, get-v t i h, get-c t i (rw e.1 h)) (set-c t i _ (rw e.1 h)), length-set t i _ ∙ e.1)

    less-is : (f : Float) → up_to n 0 (less_past (j * n) f) (whole c) ≡ whole (up_to n 0 (less_by v f) c)
    less-is f = (up_to-both (λ s t. (s ≡ whole t) × (length t ≡ n)) (less_past (j * n) f) (less_by v f) 0 n (λ i s t h. less f i s t) (whole c) c (refl, same)).0

    less-row-is : (f : Float) → less_row_at n j f (whole c) ≡ whole (less_all v f c)
    unfolding less_row_at less_all
    less-row-is f = rw (less-is f, zip-less n v c wide same f) (of-cond whole (ne f zero⁺) _ c)

    row-reflected : (vv : Float) → reflect_at n vv j (whole c) ≡ whole (reflect_of v vv c)
    unfolding reflect_at reflect_of
    row-reflected vv = rw dot-is (less-row-is _)

module _ (n : ℕ) (v : List Float) (vv : Float) (wide : length v ≡ n) where
  each : (l : List (List Float)) (j : ℕ) (p : List Float) → Wide n l → length (v ++ p) ≡ j * n
      → turns (length l) j (reflect_at n vv) (v ++ (p ++ flatten l)) ≡ v ++ (p ++ flatten (map (reflect_of v vv) l))
  unfolding turns flatten
  each [] j p w e = refl
  each (c ∷ l) j p w e =
      let r : List Float = reflect_of v vv c in
      let long : length (v ++ (p ++ r)) ≡ (j + 1) * n = omega (arith, e, w.0, reflect-length v vv c (wide ∙ sym w.0), length-append v (p ++ r), length-append p r, length-append v p) in
      ap (turns (length l) (j + 1) (reflect_at n vv)) (row-reflected n j v p (flatten l) wide e c w.0 vv ∙ ap (λ x. v ++ x) (sym (append_assoc p r (flatten l))))
      ∙ each l (j + 1) (p ++ r) w.1 long
      ∙ ap (λ x. v ++ x) (append_assoc p r (flatten (map (reflect_of v vv) l)))

  pub rows-reflected : (l : List (List Float)) → Wide n l → reflected_by n (suc (length l)) vv (v ++ flatten l) ≡ v ++ flatten (map (reflect_of v vv) l)
  unfolding reflected_by up_to
  rows-reflected l w =
      let e : suc (length l) - 1 ≡ length l = omega arith in
      let long : length (v ++ []) ≡ 1 * n = rw append-nil (omega (arith, wide)) in
      rw e (each l 1 [] w long)
