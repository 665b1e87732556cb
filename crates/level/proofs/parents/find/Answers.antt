-- Assumes nothing.
use Prim.Native.Nat.{ℕ}
use mathlib.Core.Bool.{true, false}
use mathlib.Core.List.{List}
use mathlib.Core.Logic.{◌≢◌}
use mathlib.Core.Path.{◌≡◌, refl, sym, ap, ◌∙◌}
use borrow.Author.Tests.{eq-eqb, ne_eqb}
use borrow.Author.Rules.{rules}
use lib.ListN.{set}
use Rattle.loops.proofs.Turning.{while_to-next, while_to-stop, while_to-done}
use Rattle.groups.proofs.Forest.{halved-up}
use Rattle.level.specs.Parents.{up, below, halved, find_of}
use Rattle.level.proofs.parents.find.Goals as goal

root : (ps : List ℕ) (x u : ℕ) → u ≡ up ps x → u ≡ x → below 0 (record { parents = ps; answer = x }) ≡ false
root ps x u e h = rw (eq-eqb (up ps x) x (sym e ∙ h))

inner : (ps : List ℕ) (x u : ℕ) → u ≡ up ps x → u ≢ x → below 0 (record { parents = ps; answer = x }) ≡ true
inner ps x u e n = rw (ne_eqb (up ps x) x (λ h. n (e ∙ h)))

on : (ps ps' : List ℕ) (x u a : ℕ) → u ≡ up ps x → a ≡ up ps u → ps' ≡ set ps x a
    → record { parents = ps'; answer = a } ≡ halved (record { parents = ps; answer = x })
unfolding halved
on ps ps' x u a e i q = rw (q, halved-up ps x, i, e)

pub loop-init : goal.loop-init
unfolding find_of
loop-init c = refl

pub returns-then-parent-x : goal.returns-then-parent-x
returns-then-parent-x c =
    let l = c.loop in
    let e =
    while_to-stop below (λ i. halved) 80 l.counter (record { parents = l.p; answer = l.x }) _ (search rules)
    (root l.p l.x _ c.get_or-parent.ensures c.if-parent-x.true) l.invariant in
    (ap (λ g. g.answer) e, ap (λ g. g.parents) e)

pub loop-preserved : goal.loop-preserved
loop-preserved c =
    let l = c.loop in
    while_to-next below (λ i. halved) 80 l.counter (record { parents = l.p; answer = l.x }) _ _ (search rules)
    (inner l.p l.x _ c.get_or-parent.ensures c.if-parent-x.false)
    (on l.p _ l.x _ _ c.get_or-parent.ensures c.get_or-above.ensures c.put.ensures) l.invariant

pub returns : goal.returns
returns c =
    let l = c.loop in
    let e = while_to-done below (λ i. halved) 80 l.counter (record { parents = l.p; answer = l.x }) _ (search rules) l.invariant in
    (ap (λ g. g.answer) e, ap (λ g. g.parents) e)
