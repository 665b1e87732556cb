-- A list for each element of a list, one after another: what is in them, and going over them; and the images of a list's elements. Assumes nothing.
use mathlib.Core.List.Memᴰ
use mathlib.Core.List.{
  List,
  [],
  ◌∷◌,
  ◌++◌,
  map,
  map-append,
  flat_map,
  Memᴰ,
}
use mathlib.Core.Logic.{◌⊎◌, inl, inr}
use mathlib.Core.Path.{◌≡◌, refl, sym, ap, ◌∙◌}
use Rattle.loops.specs.Turns.{fold}
use Rattle.loops.proofs.Turning.{fold-append}

module _ {A B : Type 0} (f : A → List B) where
  pub in-flat : {a : A} {v : B} (l : List A) → Memᴰ a l → Memᴰ v (f a) → Memᴰ v (flat_map f l)
  unfolding flat_map
  in-flat [] m i = absurd (Memᴰ.not-nil m)
  in-flat {a} {v} (c ∷ l) m i = of (Memᴰ.cases_cons m) (λ n. in-flat l n i)
    where
      of : (a ≡ c) ⊎ Memᴰ a l → (Memᴰ a l → Memᴰ v (flat_map f l)) → Memᴰ v (f c ++ flat_map f l)
      of (inl e) later = Memᴰ.append_left {s = f c} (flat_map f l) (rw (← e) i)
      of (inr n) later = Memᴰ.append_right (f c) (later n)

  pub of-flat : {v : B} (l : List A) → Memᴰ v (flat_map f l) → (a : A) × Memᴰ a l × Memᴰ v (f a)
  unfolding flat_map
  of-flat [] m = absurd (Memᴰ.not-nil m)
  of-flat {v} (c ∷ l) m = of (Memᴰ.append_cases (f c) m) (of-flat l)
    where
      of : Memᴰ v (f c) ⊎ Memᴰ v (flat_map f l) → (Memᴰ v (flat_map f l) → (a : A) × Memᴰ a l × Memᴰ v (f a))
          → (a : A) × Memᴰ a (c ∷ l) × Memᴰ v (f a)
      of (inl n) later = (c, Memᴰ.head refl, n)
      of (inr n) later = let t = later n in (t.0, Memᴰ.tail t.1, t.2)

  pub map-flat : {C : Type 0} (g : B → C) (l : List A) → map g (flat_map f l) ≡ flat_map (λ a. map g (f a)) l
  unfolding flat_map
  map-flat g [] = refl
  map-flat g (a ∷ l) = map-append g (f a) (flat_map f l) ∙ ap (λ r. map g (f a) ++ r) (map-flat g l)

-- going over the parts is going over the whole
module _ {A S K : Type 0} (f : S → A → S) (g : K → List A) (h : S → K → S) (turn : (s : S) (k : K) → h s k ≡ fold f s (g k)) where
  pub fold-parts : (ks : List K) (s : S) → fold h s ks ≡ fold f s (flat_map g ks)
  unfolding flat_map
  fold-parts [] s = refl
  fold-parts (k ∷ ks) s = fold-parts ks (h s k) ∙ ap (λ t. fold f t (flat_map g ks)) (turn s k) ∙ sym (fold-append f s (g k) (flat_map g ks))

-- the images of a list's elements
module _ {A B : Type 0} (g : A → B) where
  pub in_map : {a : A} (l : List A) → Memᴰ a l → Memᴰ (g a) (map g l)
  in_map [] m = absurd (Memᴰ.not-nil m)
  in_map {a} (c ∷ l) m = of (Memᴰ.cases_cons m) (in_map l)
    where
      of : (a ≡ c) ⊎ Memᴰ a l → (Memᴰ a l → Memᴰ (g a) (map g l)) → Memᴰ (g a) (g c ∷ map g l)
      of (inl e) later = Memᴰ.head (ap g e)
      of (inr n) later = Memᴰ.tail (later n)

  pub of_map : {v : B} (l : List A) → Memᴰ v (map g l) → (a : A) × Memᴰ a l × (v ≡ g a)
  of_map [] m = absurd (Memᴰ.not-nil m)
  of_map {v} (c ∷ l) m = of (Memᴰ.cases_cons m) (of_map l)
    where
      of : (v ≡ g c) ⊎ Memᴰ v (map g l) → (Memᴰ v (map g l) → (a : A) × Memᴰ a l × (v ≡ g a)) → (a : A) × Memᴰ a (c ∷ l) × (v ≡ g a)
      of (inl e) later = (c, Memᴰ.head refl, e)
      of (inr n) later = let t = later n in (t.0, Memᴰ.tail t.1, t.2)
