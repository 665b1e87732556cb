-- A value that a test picks, `cond b x y`, from what the test found. Assumes nothing.
--     pick_yes, pick_no    v is what the one arm says
--     either               what holds of both arms holds of what is picked
--     either-both          what holds between the arms of two holds between what one test picks of them
--     of-cond              what is made of the picked is picked of what is made
--     both, none_of_four   two tests that hold together, four that fail together
--     denied               what a test that fails denies
--     picks                the set for `search`: these two, and what turns a fact on numbers into its test's value
use mathlib.Core.Bool.{Bool, true, false, cond, ◌&&◌, ◌||◌, true≢false}
use mathlib.Core.Logic.{◌↔◌}
use mathlib.Core.Path.{◌≡◌, refl, sym}
use borrow.Author.Tests.{lt-ltb, le-ltb, le-leb, lt-leb, eq-eqb, ne_eqb}

pub pick_yes : {A : Type 0} (b : Bool) (v x y : A) → b ≡ true → v ≡ x → v ≡ cond b x y
pick_yes b v x y t e = rw t e

pub pick_no : {A : Type 0} (b : Bool) (v x y : A) → b ≡ false → v ≡ y → v ≡ cond b x y
pick_no b v x y t e = rw t e

pub either : {A : Type 0} (P : A → Type 0) (b : Bool) (x y : A) → P x → P y → P (cond b x y)
either P true x y p q = p
either P false x y p q = q

pub either-both : {A B : Type 0} (R : A → B → Type 0) (b : Bool) (x y : A) (v w : B) → R x v → R y w → R (cond b x y) (cond b v w)
either-both R true x y v w p q = p
either-both R false x y v w p q = q

pub of-cond : {A B : Type 0} (f : A → B) (b : Bool) (x y : A) → cond b (f x) (f y) ≡ f (cond b x y)
of-cond f true x y = refl
of-cond f false x y = refl

pub both : (p q : Bool) → p && q ≡ true → (p ≡ true) × (q ≡ true)
both true q h = (refl, h)
both false q h = (h, cc)

pub none_of_four : (p q r s : Bool) → p || q || r || s ≡ false → (p ≡ false) × (q ≡ false) × (r ≡ false) × (s ≡ false)
none_of_four true q r s h = (cc, cc, cc, cc)
none_of_four false true r s h = (cc, cc, cc, cc)
none_of_four false false true s h = (cc, cc, cc, cc)
none_of_four false false false s h = (refl, refl, refl, h)

pub denied : {A : Type 0} (t : Bool) → (t ≡ true ↔ A) → t ≡ false ↔ (A → ⊥)
denied true e = (λ h. absurd (true≢false h), λ n. absurd (n (e.0 refl)))
denied false e = (λ h a. absurd (true≢false (sym (e.1 a))), λ n. refl)

pub ruleset picks = (pick_yes, pick_no, lt-ltb, le-ltb, le-leb, lt-leb, eq-eqb, ne_eqb)
