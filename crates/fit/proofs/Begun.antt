-- Where a fit starts, at the head of 80 places. Assumes nothing.
use Prim.Native.Nat.{ℕ, zero, suc, ◌-◌, ◌*◌, ◌≤◌}
use mathlib.Core.List.{List, ◌++◌}
use mathlib.Core.Path.{◌≡◌, ◌∙◌}
use native.Mathlib.Nat.{sub-zero, zero-sub, suc-sub-suc}
use borrow.Author.Tests.{le-leb}
use lib.Ieee.{Float}
use lib.ListN.{length, drop, replicate}
use Rattle.floats.specs.Ops.{zero⁺}
use Rattle.members.specs.Scale.{start_of, start_in}
use Rattle.plane.specs.declared.Vec2.{Vec2}
use Rattle.sketch.specs.declared.Point.{Point}

pub begun : (centre : Vec2) (size : Float) (ps : List Point) (x : List Float) → x ≡ start_in centre size ps (replicate 80 zero⁺)
    → 2 * length ps ≤ length (replicate 80 zero⁺) → x ≡ start_of centre size ps ++ drop (2 * length ps) (replicate 80 zero⁺)
unfolding start_in
begun centre size ps x e h = e ∙ rw (le-leb (2 * length ps) (length (replicate 80 zero⁺)) h)

pub fewer : (m n : ℕ) (v : Float) → drop n (replicate m v) ≡ replicate (m - n) v
fewer m zero v = rw sub-zero
fewer zero (suc n) v = rw zero-sub
fewer (suc m) (suc n) v = rw suc-sub-suc (fewer m n v)
