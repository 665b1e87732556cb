-- `brought-back` (specs/Scale.antt): the loop over the points puts each at its two places, and no later turn moves it. Assumes nothing.
use Prim.Native.Nat.{ℕ, ◌+◌, ◌*◌, ◌≤◌, ◌<◌, min}
use mathlib.Core.List.{List}
use mathlib.Core.Logic.{◌≢◌}
use mathlib.Core.Path.{◌≡◌, ap₂, ◌∙◌}
use native.Mathlib.Decide.{ℕ_discrete}
use native.Mathlib.Omega.{arith}
use lib.Ieee.{Float, nan}
use lib.ListN.{length, get_or, set, replicate, length-set, length-replicate}
use lib.Seq.{get_or-set_same, get_or-set_other, get_or-take}
use Rattle.floats.specs.Ops.{zero⁺}
use Rattle.loops.proofs.Keeps.{up_to-keeps}
use Rattle.plane.specs.Vectors.{in_units}
use Rattle.plane.specs.declared.Vec2.{Vec2}
use Rattle.rows.specs.Kinds.{vec}
use Rattle.rows.specs.Located.{point_at, at_of}
use Rattle.sketch.specs.declared.Build.{Build}
use Rattle.plate.specs.Scale.{scale_at, all_scaled_of, self_at, in_order, BroughtBack}

-- ---- each point stands at its own number

record Own (k : ℕ) (places : List ℕ) : Type 0 where
  sized : length places ≡ 40
  at : (q : ℕ) → q < k → get_or places q 0 ≡ q

own-next : (k : ℕ) (places : List ℕ) → k < 40 → Own k places → Own (k + 1) (self_at k places)
unfolding self_at
own-next k places h o = record { sized = rw length-set o.sized; at = λ q l. go q l (ℕ_discrete q k) }
  where
    go : (q : ℕ) → q < k + 1 → Dec (q ≡ k) → get_or (set places k k) q 0 ≡ q
    go q l (yes e) = rw e (get_or-set_same places k k 0 (rw o.sized h))
    go q l (no n) = get_or-set_other places k q k 0 n ∙ o.at q (omega arith)

own : Own 40 in_order
own = up_to-keeps Own self_at 40 own-next 0 (replicate 40 0) (omega arith) (record { sized = length-replicate {A = ℕ} 40 0; at = λ q l. absurd (omega arith) })

-- ---- and there are its coordinates

module _ (centre : Vec2) (size : Float) (points : List Float) where
  record Brought (k : ℕ) (x : List Float) : Type 0 where
    sized : length x ≡ 80
    at : (q : ℕ) → q < k → point_at x q ≡ in_units centre size (point_at points q)

  module _ (k : ℕ) (x : List Float) (h : k < 40) (b : Brought k x) (u v : Float) where
    own-place : point_at (set (set x (2 * k) u) (2 * k + 1) v) k ≡ vec u v
    own-place =
        let first : 2 * k < length x = rw b.sized (omega arith) in
        let second : 2 * k + 1 < length (set x (2 * k) u) = rw (length-set, b.sized) (omega arith) in
        ap₂ vec
        (get_or-set_other (set x (2 * k) u) (2 * k + 1) (2 * k) v nan (λ e. omega arith) ∙ get_or-set_same x (2 * k) u nan first)
        (get_or-set_same (set x (2 * k) u) (2 * k + 1) v nan second)

    other_place : (q : ℕ) → q ≢ k → point_at (set (set x (2 * k) u) (2 * k + 1) v) q ≡ point_at x q
    other_place q n =
        ap₂ vec
        (get_or-set_other (set x (2 * k) u) (2 * k + 1) (2 * q) v nan (λ e. omega arith) ∙ get_or-set_other x (2 * k) (2 * q) u nan (λ e. n (omega arith)))
        (get_or-set_other (set x (2 * k) u) (2 * k + 1) (2 * q + 1) v nan (λ e. n (omega arith))
        ∙ get_or-set_other x (2 * k) (2 * q + 1) u nan (λ e. omega arith))

  brought-next : (n : ℕ) → n ≤ 40 → (k : ℕ) (x : List Float) → k < n → Brought k x → Brought (k + 1) (scale_at centre size points k x)
  unfolding scale_at
  brought-next n few k x h b = record { sized = rw (length-set, length-set) b.sized; at = λ q l. go q l (ℕ_discrete q k) }
    where
      go : (q : ℕ) → q < k + 1 → Dec (q ≡ k) → point_at (scale_at centre size points k x) q ≡ in_units centre size (point_at points q)
      go q l (yes e) = rw e (own-place k x (omega arith) b _ _)
      go q l (no n) = other_place k x (omega arith) b _ _ q n ∙ b.at q (omega arith)

  brought : (n : ℕ) → n ≤ 40 → Brought n (all_scaled_of centre size n points)
  unfolding all_scaled_of
  brought n few =
      up_to-keeps Brought (scale_at centre size points) n (brought-next n few) 0 (replicate 80 zero⁺) (omega arith)
      (record { sized = length-replicate 80 zero⁺; at = λ q l. absurd (omega arith) })

pub brought-back : (b : Build) (points : List Float) → BroughtBack b points
unfolding at_of
brought-back b points p h =
    let n = min b.point_count 40 in
    let stands : get_or in_order p.0 0 ≡ p.0 = own.at p.0 (omega arith) in
    rw (get_or-take n in_order p.0 0 h, stands) ((brought b.centre b.size points n (omega arith)).at p.0 h)
