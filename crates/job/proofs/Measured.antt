-- `measures-as-handed-out` and `worst-as-handed-out` (specs/Sentences.antt): the points of a job keep their length through fits, places and
-- levels, so that they are the head of the output; the measures behind them are taken at them, and so is worst. Assumes nothing.
use Prim.Native.Nat.{ℕ, zero, suc, ◌+◌, ◌*◌, ◌≤◌, min}
use mathlib.Core.Bool.{Bool, false, true≢false}
use mathlib.Core.List.{List}
use mathlib.Core.Path.{◌≡◌, refl, sym, ap, ◌∙◌}
use native.Mathlib.Nat.{min-eq_left}
use native.Mathlib.Omega.{arith}
use lib.Ieee.{Float, nan}
use lib.Dec.{ltb}
use lib.ListN.{length, get_or, set, take, replicate, length-take, length-set, length-replicate}
use lib.Seq.{take_at}
use Rattle.std.specs.Prelude.{Ok}
use Rattle.fit.specs.Groups.{frame_in, outcome_at}
use Rattle.fit.specs.declared.Frame.{Frame}
use Rattle.floats.specs.Ops.{zero⁺}
use Rattle.groups.specs.Listed.{grouping_of}
use Rattle.groups.specs.declared.Grouping.{Grouping}
use Rattle.level.specs.Fixed.{fixed_of}
use Rattle.level.specs.Level.{joined, place, follows, level_point, level_points, level_axis, level_of}
use Rattle.level.specs.Parents.{Gives, alone, find_of}
use Rattle.loops.proofs.Keeps.{up_to-keeps}
use Rattle.loops.proofs.Picks.{either}
use Rattle.loops.specs.Turns.{up_to}
use Rattle.members.specs.Lists.{numbers_of}
use Rattle.members.specs.Movable.{nowhere}
use Rattle.members.specs.Scale.{back_to, coordinates_at, put_point, unscale_to, unscale_at, unscale_of}
use Rattle.plane.specs.declared.Vec2.{Vec2}
use Rattle.plate.proofs.Describes.{describes}
use Rattle.plate.specs.Worst.{worst_of}
use Rattle.rounds.specs.Solve.{Outcome, converged, failed}
use Rattle.sketch.proofs.Within.{within}
use Rattle.sketch.specs.Check.{Checked, over_bound, out_of_bounds, refers_to_nothing, over_rows}
use Rattle.sketch.specs.Parts.{equations_of}
use Rattle.sketch.specs.declared.Active.{Active}
use Rattle.sketch.specs.declared.Build.{Build}
use Rattle.sketch.specs.declared.Point.{Point}
use Rattle.sketch.specs.declared.State.{State}
use Rattle.sketch.specs.declared.State.TheVariants.{Free, Kept, Placed}
use Rattle.job.specs.Groups.{Result, fits, fails, taken_of, groups_from, begin, fit_of}
use Rattle.job.specs.Points.{drawn_at, drawn, place_state, place_at, placed_in, levelled, handed_out}
use Rattle.job.specs.Promise.{no_room, number_in, unfit, verdict, answer_after, output_after}
use Rattle.job.specs.Sentences.{MeasuresAsHandedOut, WorstAsHandedOut}
use Rattle.job.specs.declared.Doing.{Doing}
use Rattle.job.proofs.Sentences.{verdict-passes}
use Rattle.job.proofs.Theorem.{none_left, goes_on, stops, noughth, given-exactly}

-- what every turn keeps as long as it was
module _ {S : Type 0} (size : S → ℕ) (f : ℕ → S → S) (hi : ℕ) (step : (i : ℕ) (s : S) → size (f i s) ≡ size s) where
  sized : (s : S) → size (up_to hi 0 f s) ≡ size s
  sized s = up_to-keeps (λ i t. size t ≡ size s) f hi (λ i t h e. step i t ∙ e) 0 s (omega arith) refl

put : (p : ℕ) (q : Vec2) (out : List Float) → length (put_point p q out) ≡ length out
put p q out = rw (length-set, length-set)

drawn-sized : (points : List Point) → length (drawn points) ≡ 80
unfolding drawn drawn_at
drawn-sized points = sized length (drawn_at points) 40 (λ i s. put i (get_or points i nowhere).start s) (replicate 80 zero⁺) ∙ length-replicate 80 zero⁺

module _ (points : List Point) (centre : Vec2) (size : Float) (ps : List ℕ) (x : List Float) where
  unscale-turn : (k : ℕ) (out : List Float) → length (unscale_at points centre size ps x k out) ≡ length out
  unfolding unscale_at unscale_to
  unscale-turn k out =
      let p = get_or ps k 0 in
      let q = get_or points p nowhere in
      let at = back_to centre size q.state q.start (coordinates_at x k) in
      either (λ l. length l ≡ length out) (ltb p (length points)) (put_point p at out) out (put p at out) refl

  unscale-sized : (out : List Float) → length (unscale_of points centre size ps x out) ≡ length out
  unfolding unscale_of
  unscale-sized out = sized length (unscale_at points centre size ps x) (length ps) unscale-turn out

state-sized : (s : State) (p : ℕ) (out : List Float) → length (place_state s p out) ≡ length out
state-sized Free p out = refl
state-sized Kept p out = refl
state-sized (Placed at) p out = put p at out

placed-sized : (points : List Point) (out : List Float) → length (placed_in points out) ≡ length out
unfolding placed_in place_at
placed-sized points out = sized length (place_at points) 40 (λ i s. state-sized (get_or points i nowhere).state i s) out

module _ (fixed : List Bool) (es : List Active) (n : ℕ) where
  level-turn : (axis p : ℕ) (s : Gives (List Float)) → length (level_point axis fixed p s).answer ≡ length s.answer
  unfolding level_point
  level-turn axis p s =
      let r = find_of s.parents p in
      let v = get_or s.answer (place axis r.answer) nan in
      either (λ l. length l ≡ length s.answer) (follows fixed r.answer p) (set s.answer (place axis p) v) s.answer (rw length-set) refl

  axis-sized : (axis : ℕ) (points : List Float) → length (level_axis fixed es n axis points) ≡ length points
  unfolding level_axis level_points
  axis-sized axis points = sized (λ (s : Gives (List Float)). length s.answer) (level_point axis fixed) n (level-turn axis) (record { parents = joined axis fixed es alone; answer = points })

level-sized : (b : Build) (points : List Float) → length (level_of b points) ≡ length points
unfolding level_of
level-sized b points =
    let fixed = fixed_of b.points in
    let n = min b.point_count 40 in
    sized length (level_axis fixed (equations_of b) n) 2 (axis-sized fixed (equations_of b) n) points

-- 40 points in, as many as the build counts out
pub levelled-long : (b : Build) (points : List Float) → length points ≡ 80 → b.point_count ≤ 40 → length (levelled b points) ≡ 2 * b.point_count
unfolding levelled
levelled-long b points long few =
    level-sized b _
    ∙ length-take (2 * b.point_count) (placed_in b.points points)
    ∙ rw (placed-sized b.points points, long) (min-eq_left (omega arith))

-- they are the head of what is handed out
pub handed-points : (b : Build) (points out : List Float) → length points ≡ 80 → b.point_count ≤ 40
    → take (2 * b.point_count) (handed_out b points out) ≡ levelled b points
unfolding handed_out
handed-points b points out long few = take_at (levelled b points) _ (2 * b.point_count) (levelled-long b points long few)

abbrev point_count : Result → ℕ
point_count (fits d) = length d.points
point_count (fails g u) = 0

module _ (b : Build) (gr : Grouping) where
  taken-sized : (f : Frame) (g : ℕ) (x : List Float) (i t : ℕ) (d : Doing) → length (taken_of b f g x i t d).points ≡ length d.points
  unfolding taken_of
  taken-sized f g x i t d = unscale-sized b.points b.centre b.size (numbers_of f.points.0) x d.points

  groups-sized : (k g : ℕ) (d e : Doing) → groups_from b gr k g d ≡ fits e → length e.points ≡ length d.points
  groups-sized zero g d e h = sym (ap point_count (sym (none_left b gr g d) ∙ h))
  groups-sized (suc k) g d e h = go (outcome_at b gr g) refl (λ d'. groups-sized k (g + 1) d' e)
    where
      go : (o : Outcome) → outcome_at b gr g ≡ o → ((d' : Doing) → groups_from b gr k (g + 1) d' ≡ fits e → length e.points ≡ length d'.points)
          → length e.points ≡ length d.points
      go (converged x i t) q later = later _ (sym (goes_on b gr k g d x i t q) ∙ h) ∙ taken-sized (frame_in b gr g) g _ i t d
      go (failed w i t) q later = absurd (true≢false (ap unfit (sym (stops b gr k g d w i t q) ∙ h)))

fit-of : (R : Result) → unfit R ≡ false → (d : Doing) × (R ≡ fits d)
fit-of (fits d) h = (d, refl)
fit-of (fails g u) h = absurd (true≢false h)

begin-sized : (b : Build) → length (begin b).points ≡ 80
unfolding begin
begin-sized b = drawn-sized b.points

module _ (b : Build) where
  points-sized : (d : Doing) → fit_of b ≡ fits d → length d.points ≡ 80
  unfolding fit_of
  points-sized d h = groups-sized b (grouping_of b) _ 0 (begin b) d h ∙ begin-sized b

  output-is : (d : Doing) (v : Checked) (out : List Float) → v ≡ Ok tt → fit_of b ≡ fits d → output_after b out v ≡ handed_out b d.points out
  output-is d v out e h = rw (e, h)

  worst-is : (d : Doing) (v : Checked) → v ≡ Ok tt → fit_of b ≡ fits d → (answer_after b v).worst ≡ worst_of b (levelled b d.points)
  worst-is d v e h = rw (e, h)

  -- a job that ends in 0 has fitted, from 40 points
  record Went (out p q r : List Float) : Type 0 where
    doing : Doing
    fit : fit_of b ≡ fits doing
    passes : verdict b out p q r ≡ Ok tt
    few : b.point_count ≤ 40

  went : (out p q r : List Float) → number_in b (length out) (length p) (length q) (length r) ≡ 0 → Went out p q r
  went out p q r h =
      let s = ((given-exactly b (length out) (length p) (length q) (length r)).fitted.0 h).0 in
      let f = fit-of (fit_of b) ((noughth (over_bound b) (no_room b (length out) (length p) (length q) (length r)) (out_of_bounds b) (refers_to_nothing b) (over_rows b) (unfit (fit_of b))).0 h).5 in
      record { doing = f.0; fit = f.1; passes = verdict-passes b (length out) (length p) (length q) (length r) s; few = (within b s.counts).0 }

  pub measures-as-handed-out : MeasuresAsHandedOut b
  unfolding handed_out
  measures-as-handed-out out p q r h =
      let w = went out p q r h in
      let d = w.doing in (
        levelled b d.points,
        levelled-long b d.points (points-sized d w.fit) w.few,
        output-is d (verdict b out p q r) out w.passes w.fit,
      )

  pub worst-as-handed-out : WorstAsHandedOut b
  worst-as-handed-out out p q r h points rest long o =
      let w = went out p q r h in
      let d = w.doing in
      let v = verdict b out p q r in
      let n = 2 * b.point_count in
      let same : points ≡ levelled b d.points =
      sym (take_at points rest n long) ∙ ap (take n) (sym o ∙ output-is d v out w.passes w.fit) ∙ handed-points b d.points out (points-sized d w.fit) w.few in
      let worst : (answer_after b v).worst ≡ worst_of b points = worst-is d v w.passes w.fit ∙ ap (worst_of b) (sym same) in
      (worst, rw worst (describes b points))
