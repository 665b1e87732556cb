-- So many lines of one sort are read exactly as they are written. Assumes nothing.
use Prim.Native.Nat.{ℕ, zero, suc}
use mathlib.Core.List.{List, [], ◌∷◌, ◌++◌, map, append_assoc}
use mathlib.Core.Path.{◌≡◌, refl, sym, ap, ap₂, subst, ◌∙◌}
use native.Mathlib.Omega.{arith}
use lib.ListN.{length}
use Rattle.std.proofs.Common.{Ok}
use Rattle.spelling.proofs.Forms.{Reads, anything, read_same}
use Rattle.spelling.proofs.Steps.{Here, bound}
use Rattle.spelling.specs.Places.{Read}
use Rattle.text.specs.Items.{items_at}
use Rattle.grammar.specs.Job.{Each}
use Rattle.grammar.specs.Printed.{each}

-- k of them
abbrev pub EachFits : {A : Type 0} → (A → Type 0) → ℕ → List A → Type 0
EachFits fit k l = (length l ≡ k) × Each fit l

module _ {A M : Type 0} {text : A → List ℕ} {fit : A → Type 0} {mean : A → M} {read : List ℕ → ℕ → Read M} (r : Reads text fit mean read anything) where
  forward : (k : ℕ) (s : List ℕ) (at : ℕ) (l : List A) (t : List ℕ) → EachFits fit k l → Here s at (each text l ++ t)
      → (n : ℕ) × (items_at read k s at ≡ Ok (map mean l, n)) × Here s n t
  unfolding items_at
  forward zero s at [] t p h = (at, refl, h)
  forward zero s at (a ∷ l) t p h = absurd (omega (arith, p.0))
  forward (suc k) s at [] t p h = absurd (omega (arith, p.0))
  forward (suc k) s at (a ∷ l) t p h =
      let f = r.forward s at a (each text l ++ t) p.1.0 refl (rw append_assoc at h) in
      let g = forward k s f.0 l t (omega (arith, p.0), p.1.1) f.2 in
      (g.0, rw (f.1, g.1), g.2)

  backward : (k : ℕ) (s : List ℕ) (at : ℕ) (t : List ℕ) (m : List M) (n : ℕ) → Here s at t → items_at read k s at ≡ Ok (m, n)
      → (l : List A) × (u : List ℕ) × EachFits fit k l × (map mean l ≡ m) × (t ≡ each text l ++ u) × Here s n u
  unfolding items_at
  backward zero s at t m n h e = let q = read_same e in ([], t, (refl, tt), q.0, refl, subst (λ (i : ℕ). Here s i t) q.1 h)
  backward (suc k) s at t m n h e =
      let b = bound (read s at) _ _ e in
      let d = bound (items_at read k s b.0.1) _ _ b.2 in
      let q = read_same d.2 in
      let f = r.backward s at t b.0.0 b.0.1 h b.1 in
      let g = backward k s b.0.1 f.1 d.0.0 d.0.1 f.5 d.1 in (
        f.0 ∷ g.0,
        g.1,
        (ap suc g.2.0, (f.2, g.2.1)),
        ap₂ {C = List M} (λ x l. x ∷ l) f.3 g.3 ∙ q.0,
        f.4 ∙ ap (λ l. text f.0 ++ l) g.4 ∙ sym (append_assoc (text f.0) (each text g.0) g.1),
        subst (λ (i : ℕ). Here s i g.1) q.1 g.5,
      )

  single : (k : ℕ) (l m : List A) (t u : List ℕ) → EachFits fit k l → EachFits fit k m → each text l ++ t ≡ each text m ++ u → (l ≡ m) × (t ≡ u)
  single zero [] [] t u p q e = (refl, e)
  single zero [] (b ∷ m) t u p q e = absurd (omega (arith, q.0))
  single zero (a ∷ l) m t u p q e = absurd (omega (arith, p.0))
  single (suc k) [] m t u p q e = absurd (omega (arith, p.0))
  single (suc k) (a ∷ l) [] t u p q e = absurd (omega (arith, q.0))
  single (suc k) (a ∷ l) (b ∷ m) t u p q e =
      let v = r.single a b (each text l ++ t) (each text m ++ u) p.1.0 q.1.0 refl refl (sym (append_assoc (text a) (each text l) t) ∙ e ∙ append_assoc (text b) (each text m) u) in
      let w = single k l m t u (omega (arith, p.0), p.1.1) (omega (arith, q.0), q.1.1) v.1 in
      (ap₂ {C = List A} (λ x n. x ∷ n) v.0 w.0, w.1)

  pub each-reads : (k : ℕ) → Reads (each text) (EachFits fit k) (map mean) (items_at read k) anything
  each-reads k = record { forward = λ s at l t p h. forward k s at l t p; backward = backward k; single = λ l m t u p q h i. single k l m t u p q }
