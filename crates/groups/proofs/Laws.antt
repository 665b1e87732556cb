-- What the turns of the loops come to, over plain lists and numbers. Assumes nothing.
use Prim.Native.Nat.{ℕ, ◌+◌, ◌≤◌, ◌<◌}
use mathlib.Core.Bool.{Bool, true, false, cond}
use mathlib.Core.List.{List}
use mathlib.Core.Logic.{◌≢◌}
use mathlib.Core.Path.{◌≡◌, refl, sym, ap, ◌∙◌}
use native.Mathlib.Omega.{arith}
use lib.Dec.{eqb}
use lib.ListN.{length, get_or, set}
use Rattle.loops.proofs.Parts.{any-default}
use Rattle.loops.specs.Turns.{up_to}
use Rattle.loops.proofs.Turning.{up_to-next}
use Rattle.groups.specs.Listed.{point_of, entered_of, numbered_of, list_point}
use Rattle.groups.specs.Parents.{up, Falls, Gives, halved, root_of}
use Rattle.groups.specs.declared.listing.Listing.{Listing}
use Rattle.groups.proofs.Forest.{root-next, root-done, root_is, rt-low, halved-up}

-- a turn of `root`: u and a are x's parent, b is a's
pub turn-root : (ps ps' : List ℕ) (x u a b : ℕ) (R : Gives ℕ) → Falls ps → u ≢ x → u ≡ up ps x → a ≡ up ps x → b ≡ up ps a
    → ps' ≡ set ps x b → root_of ps x ≡ R → root_of ps' b ≡ R
turn-root ps ps' x u a b R f n e i j q r =
    let path : ps' ≡ halved ps x = rw (q, j, i) in
    let moves : up ps x ≢ x = λ h. n (e ∙ h) in
    let top : b ≡ up (halved ps x) x = j ∙ ap (λ y. up ps y) i ∙ sym (halved-up ps x) in
    rw (path, top) (sym (root-next ps x f moves) ∙ r)

number-count : (b : Bool) (s t : Listing) → t.count ≡ s.count + 1 → (cond b t s).count ≤ s.count + 1
number-count true s t e = omega arith
number-count false s t e = omega arith

pub entered-count : (r q : ℕ) (s s' : Listing) → s' ≡ entered_of r q s → s'.count ≤ s.count + 1
unfolding entered_of numbered_of
entered-count r q s s' e = rw e (number-count (eqb (get_or s.index r 40) 40) s _ refl)

pub point-count : (b : Bool) (q : ℕ) (g : Gives Listing) (s : Listing) → s ≡ (point_of b q g).answer → s.count ≤ g.answer.count + 1
unfolding point_of
point-count true q g s e = entered-count (root_of g.parents q).answer q g.answer s e
point-count false q g s e = rw e (omega arith)

-- the way out of `root`
module _ (ps : List ℕ) (x u : ℕ) (R : Gives ℕ) (e : u ≡ up ps x) (h : u ≡ x) (r : root_of ps x ≡ R) where
  pub ends-answer : x ≡ R.answer
  ends-answer = ap (λ g. g.answer) (sym (root-done ps x (sym e ∙ h)) ∙ r)

  pub ends-parents : ps ≡ R.parents
  ends-parents = ap (λ g. g.parents) (sym (root-done ps x (sym e ∙ h)) ∙ r)

pub root-low : (ps : List ℕ) (x r : ℕ) → Falls ps → r ≡ (root_of ps x).answer → r ≤ x
root-low ps x r f e = rw (e, root_is ps x f) (rt-low ps f x)

-- a turn of `list_points`
module _ (tied : List Bool) (q : ℕ) (d : Bool) (ps : List ℕ) (s : Listing) (R : Gives Listing) (h : q < 40) (i : q < length tied)
    (k : up_to 40 q (list_point tied) (record { parents = ps; answer = s }) ≡ R) where
  pub tied-turn : (ps' : List ℕ) (s' : Listing) (r : ℕ) → get_or tied q d ≡ true → r ≡ (root_of ps q).answer → ps' ≡ (root_of ps q).parents
      → s' ≡ entered_of r q s → up_to 40 (q + 1) (list_point tied) (record { parents = ps'; answer = s' }) ≡ R
  unfolding list_point point_of
  tied-turn ps' s' r t e₁ e₂ e₃ = up_to-next (list_point tied) 40 q _ _ R h (rw (any-default tied q false d i ∙ t, e₃, e₁, e₂)) k

  pub untied-turn : get_or tied q d ≡ false → up_to 40 (q + 1) (list_point tied) (record { parents = ps; answer = s }) ≡ R
  unfolding list_point point_of
  untied-turn t = up_to-next (list_point tied) 40 q _ _ R h (rw (any-default tied q false d i ∙ t)) k
