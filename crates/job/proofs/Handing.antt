-- What is handed out, from what the calls promise. Assumes nothing.
use Prim.Native.Nat.{ℕ, ◌+◌, ◌*◌, ◌-◌, ◌≤◌}
use mathlib.Core.List.{List, ◌++◌}
use mathlib.Core.Path.{◌≡◌, ◌∙◌}
use native.Mathlib.Nat.{min-eq_left}
use native.Mathlib.Omega.{arith}
use lib.Ieee.{Float}
use lib.ListN.{length, take, drop, length-take, length-map, length-drop}
use lib.Seq.{take_at, drop_at, take_all, drop-drop}
use Rattle.floats.specs.Lists.{copied_of}
use Rattle.level.specs.Level.{level_of}
use Rattle.loops.proofs.Parts.{tail-part, past-tail}
use Rattle.measures.specs.Gauges.{gauged_of, measured_in}
use Rattle.sketch.specs.declared.Build.{Build}
use Rattle.job.specs.Points.{placed_in, levelled, handed_out}

-- what is copied where there is room for it
copied : (l t : List Float) (n : ℕ) → length l ≡ n → n ≤ length t → copied_of l t ≡ l ++ drop n t
copied l t n e h = rw (e, take_all (length t) l (omega arith))

gauged-length : (b : Build) (points : List Float) → b.measure_count ≤ 20 → length b.measures ≡ 20 → length (gauged_of b points) ≡ b.measure_count
unfolding gauged_of
gauged-length b points h l = rw (length-map, length-take, l) (min-eq_left h)

-- y are the points levelled, and z what the call for the measures left
module _ (b : Build) (fitted pts y out h z : List Float) (n : ℕ) (twice : n ≡ 2 * b.point_count) (few : b.measure_count ≤ 20) (places : length b.measures ≡ 20)
    (room : 2 * b.point_count + b.measure_count ≤ length out) (long : length y ≡ n) (placed : pts ≡ placed_in b.points fitted)
    (level : y ≡ level_of b (take n pts)) (copy : h ≡ take n (y ++ drop n pts))
    (measure : z ≡ measured_in b (take n (y ++ drop n pts)) (take (length (h ++ drop n out) - n) (drop n (h ++ drop n out)))) where
  abbrev out₁ : List Float
  out₁ = h ++ drop n out

  points-are : take n (y ++ drop n pts) ≡ y
  points-are = take_at y (drop n pts) n long

  levelled-are : y ≡ levelled b fitted
  unfolding levelled
  levelled-are = rw (← twice, ← placed) level

  laid : out₁ ≡ y ++ drop n out
  laid = rw (copy, points-are)

  measures-are : z ≡ gauged_of b y ++ drop (n + b.measure_count) out
  unfolding measured_in
  measures-are =
      measure
      ∙ rw (points-are, tail-part out₁ n, laid, drop_at y (drop n out) n long)
      (copied (gauged_of b y) (drop n out) b.measure_count (gauged-length b y few places) (rw length-drop (omega arith))
      ∙ rw (drop-drop b.measure_count n out))

  pub handed-out : take n out₁ ++ (z ++ drop (length out₁ - n) (drop n out₁)) ≡ handed_out b fitted out
  unfolding handed_out
  handed-out = past-tail out₁ z n ∙ rw (laid, take_at y (drop n out) n long, measures-are, ← twice, ← levelled-are)
