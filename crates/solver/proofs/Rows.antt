-- A row's update. Assumes nothing.
--     as-far       the turns past the row's end write nothing
--     row-updated  what it does to a row that is lent beside another one of its table, the loop on the whole table does
use Prim.Native.Nat.{ℕ, ◌+◌, ◌≤◌, ◌<◌}
use mathlib.Core.List.{List, ◌++◌}
use mathlib.Core.Logic.{inl, inr, ◌⊎◌}
use mathlib.Core.Path.{◌≡◌, refl, sym, ap, ◌∙◌}
use native.Mathlib.Nat.{le_refl, add-zero}
use native.Mathlib.Omega.{arith}
use lib.Ieee.{Float, nan}
use lib.ListN.{length, take, drop, set, length-set, length-drop, take-append-drop, get_or-append}
use lib.Seq.{length-take-le, get_or-take, get_or-drop}
use Rattle.std.specs.Prelude.{min}
use Rattle.std.proofs.lemmas.Bool.{cases_lt}
use Rattle.std.proofs.lemmas.List.{set_past, set-append_left}
use Rattle.floats.specs.Ops.{◌⊖◌, ◌⊗◌}
use Rattle.loops.specs.Turns.{up_to}
use Rattle.loops.proofs.Both.{up_to-both}
use Rattle.loops.proofs.Keeps.{up_to-keeps}
use Rattle.loops.proofs.Parts.{get-past, set_past as set-past}
use Rattle.loops.proofs.Turning.{up_to-split, up_to-done, up_to-part}
use Rattle.solver.specs.Steps.{at, less_by}

module _ (v : List Float) (f : Float) where
  idle : (c : List Float) (len lo : ℕ) → lo ≤ len → length c ≤ lo → up_to len lo (less_by v f) c ≡ c
  unfolding less_by
  idle c len lo h past =
      (up_to-keeps (λ i s. (lo ≤ i) × (s ≡ c)) (less_by v f) len
      (λ i s k p. (omega arith, ap (less_by v f i) p.1 ∙ set_past c i _ (let q : lo ≤ i = p.0 in omega arith)))
      lo c h (le_refl lo, refl)).1

  pub as-far : (end : ℕ) (c d : List Float) → end ≡ min (length c) (length v) → length d ≡ length c → d ≡ up_to end 0 (less_by v f) c → d ≡ up_to (length v) 0 (less_by v f) c
  as-far end c d e n r =
      let h : end ≤ length v = omega arith in
      rw (up_to-split (less_by v f) (length v) end 0 c (omega arith) h, ← r) (sym (rest (cases_lt end (length v))))
    where
      rest : (end < length v) ⊎ (length v ≤ end) → up_to (length v) end (less_by v f) d ≡ d
      rest (inl k) = idle d (length v) end (omega arith) (omega arith)
      rest (inr k) = sym (up_to-done (less_by v f) (length v) end d _ k refl)

-- F's turn at lo + i takes f times the number at k + i from the one at o + i
module _ (F : ℕ → List Float → List Float) (lo o k m : ℕ) (f : Float) (turn : (i : ℕ) (s : List Float) → F (lo + i) s ≡ set s (o + i) (at s (o + i) ⊖ f ⊗ at s (k + i))) where
  module _ (p : List Float) (long : length p ≡ o) where
    apart : ℕ → List Float → List Float
    apart i t = set t i (at t i ⊖ f ⊗ at (p ++ t) (k + i))

    apart-turn : (i : ℕ) (t : List Float) → F (lo + i) (p ++ t) ≡ p ++ apart i t
    unfolding apart
    apart-turn i t = rw (turn i (p ++ t), get-past p t o i nan long) (set-past p t o i _ long)

    module _ (rest : List Float) (h : k + m ≤ o) where
      beside : (i : ℕ) (s t : List Float) → 0 ≤ i → i < m → (s ≡ t ++ rest) × (length t ≡ m)
          → (apart i s ≡ less_by (take m (drop k p)) f i t ++ rest) × (length (less_by (take m (drop k p)) f i t) ≡ m)
      unfolding apart less_by
      beside i s t z l (e, n) =
          let v : at (p ++ (t ++ rest)) (k + i) ≡ at (take m (drop k p)) i = get_or-append p (t ++ rest) nan (k + i) (omega arith) ∙ sym (get_or-take m (drop k p) i nan l ∙ get_or-drop k p i nan) in
          (rw (e, v, get_or-append t rest nan i (omega arith)) (set-append_left t rest i _ (omega arith)), length-set t i _ ∙ n)

  pub row-updated : (a y : List Float) → k + m ≤ o → o + m ≤ length a → y ≡ up_to m 0 (less_by (take m (drop k (take o a))) f) (take m (drop o a))
      → take o a ++ (y ++ drop m (drop o a)) ≡ up_to (lo + m) lo F a
  row-updated a y h fit e =
      let p = take o a in
      let long : length p ≡ o = length-take-le o a (omega arith) in
      let part : length (take m (drop o a)) ≡ m = length-take-le m (drop o a) (rw length-drop (omega arith)) in
      let both = up_to-both (λ s t. (s ≡ t ++ drop m (drop o a)) × (length t ≡ m)) (apart p long) (less_by (take m (drop k p)) f) 0 m (beside p long (drop m (drop o a)) h) (drop o a) (take m (drop o a)) (sym (take-append-drop m (drop o a)), part) in
      ap (λ t. p ++ t) (ap (λ z. z ++ drop m (drop o a)) e ∙ sym both.0)
      ∙ rw (add-zero, take-append-drop) at (sym (up_to-part (λ t. p ++ t) lo F (apart p long) (apart-turn p long) m 0 (drop o a)))
