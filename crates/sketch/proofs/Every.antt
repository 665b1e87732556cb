-- What holds of each of a list. Assumes nothing.
--     every_append, every-flat    over a list that is made of lists
--     every_true                  over a list of all that there is
--     every-cons, every_of        it holds of each, so of one
--     every-not, not-every        it fails where it fails of one
use mathlib.Core.Bool.{Bool, true, false, ◌&&◌}
use mathlib.Core.List.Memᴰ
use mathlib.Core.List.{List, [], ◌∷◌, ◌++◌, flat_map, Memᴰ}
use mathlib.Core.Logic.{◌⊎◌, inl, inr}
use mathlib.Core.Path.{◌≡◌, refl, sym, ◌∙◌, subst}
use lib.Dec.{T}
use Rattle.loops.specs.Turns.{every}

module _ {A : Type 0} (p : A → Bool) where
  pub every_append : (l m : List A) → every p (l ++ m) ≡ every p l && every p m
  every_append [] m = refl
  every_append (x ∷ l) m = go (p x) (every_append l m)
    where
      go : (b : Bool) → every p (l ++ m) ≡ every p l && every p m → b && every p (l ++ m) ≡ (b && every p l) && every p m
      go true r = r
      go false r = refl

  pub every-flat : {B : Type 0} (f : B → List A) (l : List B) → every p (flat_map f l) ≡ every (λ x. every p (f x)) l
  unfolding flat_map
  every-flat f [] = refl
  every-flat f (x ∷ l) = every_append (f x) (flat_map f l) ∙ go (every p (f x)) (every-flat f l)
    where
      go : (b : Bool) → every p (flat_map f l) ≡ every (λ x. every p (f x)) l → b && every p (flat_map f l) ≡ b && every (λ x. every p (f x)) l
      go true r = r
      go false r = refl

  pub every_true : (l : List A) → ((x : A) → p x ≡ true) → every p l ≡ true
  every_true [] h = refl
  every_true (x ∷ l) h = rw (h x) (every_true l h)

  pub every-not : (l : List A) → every p l ≡ false → (x : A) × Memᴰ x l × (p x ≡ false)
  every-not [] e = absurd (subst T e tt)
  every-not (x ∷ l) e = go (p x) refl e (every-not l)
    where
      go : (b : Bool) → p x ≡ b → b && every p l ≡ false → (every p l ≡ false → (y : A) × Memᴰ y l × (p y ≡ false))
          → (y : A) × Memᴰ y (x ∷ l) × (p y ≡ false)
      go true q e r = let s = r e in (s.0, Memᴰ.tail s.1, s.2)
      go false q e r = (x, Memᴰ.head refl, q)

  pub every-cons : (x : A) (l : List A) → every p (x ∷ l) ≡ true → (p x ≡ true) × (every p l ≡ true)
  every-cons x l = go (p x)
    where
      go : (b : Bool) → b && every p l ≡ true → (b ≡ true) × (every p l ≡ true)
      go true e = (refl, e)
      go false e = absurd (subst T (sym e) tt)

  pub every_of : (l : List A) (x : A) → every p l ≡ true → Memᴰ x l → p x ≡ true
  every_of [] x e m = absurd (Memᴰ.not-nil m)
  every_of (y ∷ l) x e m = go (Memᴰ.cases_cons m) (every_of l x (every-cons y l e).1)
    where
      go : (x ≡ y) ⊎ Memᴰ x l → (Memᴰ x l → p x ≡ true) → p x ≡ true
      go (inl i) r = rw i (every-cons y l e).0
      go (inr i) r = r i

  pub not-every : (l : List A) (x : A) → Memᴰ x l → p x ≡ false → every p l ≡ false
  not-every l x m f = go (every p l) refl
    where
      go : (b : Bool) → every p l ≡ b → b ≡ false
      go true e = absurd (subst T (sym (every_of l x e m) ∙ f) tt)
      go false e = refl
