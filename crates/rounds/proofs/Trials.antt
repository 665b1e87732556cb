-- From what the calls of an attempt promise to the definition. Assumes nothing.
use Prim.Native.Nat.{ℕ, ◌+◌, ◌*◌, ◌-◌, ◌≤◌}
use mathlib.Core.Bool.{true, false}
use mathlib.Core.List.{List, [], ◌++◌, append-nil}
use mathlib.Core.Path.{◌≡◌, refl, sym, ap, ◌∙◌}
use native.Mathlib.Nat.{le_refl}
use native.Mathlib.Omega.{arith}
use borrow.Author.Tests.{le-leb, le-ltb}
use lib.Ieee.{Float}
use lib.ListN.{length, take, drop, length-append, length-drop, drop_of_length-le}
use lib.Seq.{take_all, take_at}
use Rattle.std.specs.Prelude.{Ok, Err, is_ok}
use Rattle.normal.specs.Half.{triangle, spread_of}
use Rattle.normal.specs.Normal.{damped_of, moved_of}
use Rattle.normal.specs.Promise.{Answered, Damps, Moves}
use Rattle.solver.specs.Promise as solver
use Rattle.solver.specs.Promise.{Finds, Solves, checked, found, or_zeros, solved}
use Rattle.solver.specs.Reasons.{Reasoned, some, no_pivot, not_finite, on_some, reasoned_of}
use Rattle.solver.specs.declared.Unsolved.{Unsolved}
use Rattle.solver.specs.declared.Unsolved.TheVariants.{NoPivot, NotFinite}
use Rattle.rounds.specs.Inside.{harder_fit, trial_made}
use Rattle.rounds.specs.Problem.{state_of, tried_of}
use Rattle.rounds.specs.Reasons.{reason_of}
use Rattle.rounds.specs.Solve.{Problem, State, Trial, Tried, harder, judged, trial_at, trial_of, try_of}
use Rattle.rounds.specs.declared.Fit.{Fit}

-- ---- the elimination

-- an answer that was carried out
right : (n : ℕ) (S : Reasoned (List Float)) (y t : List Float) → y ≡ or_zeros n S ++ t → t ≡ [] → is_ok (found S) ≡ true → some y ≡ S
right n (some v) y t q r i = rw (q, r, append-nil)
right n (no_pivot c) y t q r i = cc
right n not_finite y t q r i = cc

-- a system of the very shape, in slices that hold it
module _ (n : ℕ) (mu m : Float) (h r w w₁ w₂ y : List Float) (d : Answered) (e : solver.Answered) (few : n ≤ 80) (half : triangle n ≤ length h) (long : length r ≡ n) (k : n * n ≤ length w)
    (e₁ : Damps n mu m h w w₁ d) (kept : length w₁ ≡ length w) where
  abbrev damped : List Float
  damped = damped_of n mu m (spread_of n h)

  made : w₁ ≡ damped ++ drop (n * n) w
  made = e₁.slice ∙ rw (le-ltb 80 n few, le-leb (triangle n) (length h) half, le-leb (n * n) (length w) k)

  head-long : length damped ≡ n * n
  head-long =
      let l : length damped + (length w - n * n) ≡ length w =
      sym (length-append damped (drop (n * n) w) ∙ ap (λ x. length damped + x) (length-drop (n * n) w)) ∙ sym (ap length made) ∙ kept in
      omega arith

  damped-head : take (n * n) w₁ ≡ damped
  damped-head = rw made (take_at damped (drop (n * n) w) (n * n) head-long)

  pub eliminated-is : Solves n w₁ r w₂ y e → Finds n damped r y e
  unfolding checked
  eliminated-is s =
      let fits : n * n ≤ length w₁ = rw kept k in
      let room : n ≤ length r = rw long (le_refl n) in
      let full : length r ≤ n = rw long (le_refl n) in
      let S : Reasoned (List Float) = solved n w₁ r in
      let q : e ≡ found S = s.answer ∙ rw (le-ltb 80 n few, le-leb (n * n) (length w₁) fits, le-leb n (length r) room) in
      let t : y ≡ or_zeros n S ++ drop n r = s.right ∙ rw (le-ltb 80 n few, le-leb (n * n) (length w₁) fits, le-leb n (length r) room) in
      let it : S ≡ reasoned_of n damped r = ap (λ v. reasoned_of n (take (n * n) w₁) v) (take_all n r full) ∙ ap (λ v. reasoned_of n v r) damped-head in
      record { answer = q ∙ ap found it; right = λ i. right n S y (drop n r) t (drop_of_length-le r full) (ap is_ok (sym q) ∙ i) ∙ it }

-- ---- a try

-- one without an answer is not taken, for elimination's reason
lacking : (s : State) (S : Reasoned (List Float)) (e : Unsolved) (next : List Float → Reasoned Trial) → Err e ≡ found S
    → judged s (on_some S next) ≡ record { improved = false; state = harder (reason_of e) s }
lacking s (some y) e next q = cc
lacking s (no_pivot c) e next q = let p : e ≡ NoPivot c = cc in rw p
lacking s not_finite e next q = let p : e ≡ NotFinite = cc in rw p

module _ (P : Problem) (j h x r y : List Float) (m : Float) (f : Fit) (n : ℕ) (count : n ≡ P.rows) where
  abbrev Tries : solver.Answered → Type 0
  Tries = Finds n (damped_of n f.mu m (spread_of n h)) r y

  abbrev tried : Tried
  tried = try_of P j (spread_of P.rows h) m (state_of x r f)

  pub no_trial : (g : Fit) (e : Unsolved) → Tries (Err e) → g ≡ harder_fit (reason_of e) f → tried_of x r (Err g) ≡ tried
  unfolding try_of trial_of
  no_trial g e s q = rw q (sym (lacking (state_of x r f) (reasoned_of P.rows (damped_of P.rows f.mu m (spread_of P.rows h)) r) e _ (rw count at s.answer)))

  pub a_trial : Tries (Ok tt) → judged (state_of x r f) (some (trial_at P (moved_of P.rows (length P.free) j y P.free x))) ≡ tried
  unfolding try_of trial_of
  a_trial s = rw (← rw count at (s.right refl))

-- what the step y leads to, where the trial's residuals are laid over it
pub trial_is : (P : Problem) (j x y from xn rn : List Float) (n : ℕ) (o : Answered) → n ≡ P.rows → P.rows ≤ 80 → length P.free ≤ 80 → length j ≡ P.rows * length P.free → length y ≡ n
    → from ≡ x → Moves n (length P.free) j y P.free from xn o → rn ≡ P.values xn ++ drop P.rows y
    → trial_made xn rn ≡ trial_at P (moved_of P.rows (length P.free) j y P.free x)
trial_is P j x y from xn rn n o count few narrow l k c d v =
    let lj : P.rows * length P.free ≤ length j = rw l (le_refl _) in
    let ly : P.rows ≤ length y = rw (← count, k) (le_refl _) in
    let moves : xn ≡ moved_of P.rows (length P.free) j y P.free from =
    (rw count at d.slice)
    ∙ rw (le-ltb 80 P.rows few, le-ltb 80 (length P.free) narrow, le-leb (P.rows * length P.free) (length j) lj, le-leb P.rows (length y) ly, le-leb (length P.free) (length P.free) (le_refl _)) in
    let full : length y ≤ P.rows = rw (← count, k) (le_refl _) in
    let same : rn ≡ P.values xn = v ∙ rw (drop_of_length-le y full, append-nil) in
    rw (same, moves, c)
