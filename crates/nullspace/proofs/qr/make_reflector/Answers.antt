use Prim.Native.Nat.{ℕ, ◌≤◌}
use mathlib.Core.List.{List, ◌++◌}
use mathlib.Core.Path.{◌≡◌}
use lib.ListN.{length, take, drop, replicate}
use lib.Seq.{length-take-le}
use lib.Ieee.{Float}
use Rattle.floats.specs.Ops.{zero⁺}
use Rattle.loops.specs.Turns.{up_to}
use Rattle.nullspace.specs.Steps.{away}
use Rattle.nullspace.specs.Layout.{reflector_at, swap_head}
use borrow.Author.Rules.{rules}
use Rattle.nullspace.proofs.qr.make_reflector.Goals as goal

made : (n k row : ℕ) (norm : Float) (t t₁ z y : List Float) → k ≤ length t₁ → t₁ ≡ up_to n 0 (swap_head n row) t → z ≡ replicate (length (take k t₁)) zero⁺
    → y ≡ away k norm (z ++ drop k t₁) → y ≡ reflector_at n k row norm t
unfolding reflector_at
made n k row norm t t₁ z y h s q e = rw (e, q, length-take-le k t₁ h, s)

pub returns : goal.returns
returns c = made _ _ _ _ _ c.swap_head.new.t c.fill.new.self _ (search rules) c.swap_head.ensures (c.fill.ensures.after (λ y h. h)) c.push_away.ensures
