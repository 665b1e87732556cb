-- Assumes nothing.
use Prim.Native.Nat.{ℕ}
use mathlib.Core.List.{List}
use mathlib.Core.Path.{◌≡◌, refl, ap, ◌∙◌}
use native.Mathlib.Omega.{arith}
use lib.Ieee.{Float}
use Rattle.loops.proofs.Turning.{up_to-next, up_to-done}
use Rattle.level.specs.Level.{level_point, level_points}
use Rattle.level.specs.Parents.{Gives}
use Rattle.level.proofs.sweeps.Axis.level_points.Goals as goal

both : (g : Gives (List Float)) (ps : List ℕ) (a : List Float) → a ≡ g.answer → ps ≡ g.parents → record { parents = ps; answer = a } ≡ g
both g ps a p q = rw (p, q)

pub loop-p-init : goal.loop-p-init
unfolding level_points
loop-p-init c = refl

pub loop-p-preserved : goal.loop-p-preserved
loop-p-preserved c =
    let a = c.args in
    let l = c.loop-p in
    ap (λ g. g.answer)
    (up_to-next (level_point a.self.now.number a.self.now.fixed) _ l.p (record { parents = l.parents; answer = l.points }) _ _
    (omega arith) (both _ _ _ c.level_point.ensures.0 c.level_point.ensures.1) refl)
    ∙ l.invariant

pub returns : goal.returns
returns c =
    let a = c.args in
    let l = c.loop-p in
    ap (λ g. g.answer)
    (up_to-done (level_point a.self.now.number a.self.now.fixed) _ l.p (record { parents = l.parents; answer = l.points }) _ (omega arith) refl)
    ∙ l.invariant
