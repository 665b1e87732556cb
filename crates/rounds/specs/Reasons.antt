-- Why a fit failed (document 02, K6): the code and the column of each reason, and exactly when each is given. Proved in proofs/Reasons.antt.
use Rattle.std.specs.Prelude.{ℕ, zero, suc, ◌+◌, ◌≤◌, ◌<◌, Bool, true, false, List, ◌↔◌, ◌≢◌, ◌≡◌, eqb, Float, length, Result, Ok, Err}
use Rattle.loops.specs.Turns.{Try, go, stop, try_to}
use Rattle.normal.specs.Normal.{product_of, diag_max_of}
use Rattle.solver.specs.Reasons.{Reasoned, some, no_pivot, not_finite}
use Rattle.solver.specs.declared.Unsolved.{Unsolved}
use Rattle.rounds.specs.Solve.{Problem, State, Trial, Tried, failed, max_iter, max_tries, within, better, trial_of, try_of, begun, polished, start_of, round_of, solve_of}
use Rattle.rounds.specs.declared.Reason.{Reason}
use Rattle.rounds.specs.declared.Reason.TheVariants.{NothingFree, NoPivot, NotFinite, NotLess, Spent}
use Rattle.rounds.specs.declared.Unfitted.{Unfitted}
use Rattle.rounds.specs.declared.Unfitted.TheVariants.{Failed, Refused}

-- "a code 1 to 5 in that order and the column counted from 1, or 0 for none"
abbrev pub code_of : Reason → ℕ
code_of NothingFree = 1
code_of (NoPivot c) = 2
code_of NotFinite = 3
code_of NotLess = 4
code_of Spent = 5

abbrev pub named_column : Reason → ℕ
named_column NothingFree = 0
named_column (NoPivot c) = c
named_column NotFinite = 0
named_column NotLess = 0
named_column Spent = 0

-- why a try came to nothing, by its elimination; its shape is the fit's own, so it is not refused
abbrev pub reason_of : Unsolved → Reason
reason_of (Unsolved.NoPivot c) = NoPivot c
reason_of Unsolved.NotFinite = NotFinite
reason_of (Unsolved.Refused w) = NotFinite

-- those of an ending: 0 where the fit did not fail
abbrev pub code_in : Result (Unit {0}) Unfitted → ℕ
code_in (Ok _) = 0
code_in (Err (Failed w)) = code_of w
code_in (Err (Refused _)) = 0

abbrev pub named_column_in : Result (Unit {0}) Unfitted → ℕ
named_column_in (Ok _) = 0
named_column_in (Err (Failed w)) = named_column w
named_column_in (Err (Refused _)) = 0

module _ (P : Problem) (jacobian : List Float → List Float) where
  -- ---- a round's tries, none of which is taken

  -- a try of the round that is begun at s, which stands at u by then
  abbrev pub try_in : State → State → Tried
  try_in s u =
      let j = jacobian s.x in
      let a = product_of P.rows (length P.free) j in
      try_of P j a (diag_max_of P.rows a) u

  -- and what its elimination leads to
  abbrev pub trial_in : State → State → Reasoned Trial
  trial_in s u =
      let j = jacobian s.x in
      let a = product_of P.rows (length P.free) j in
      trial_of P j a (diag_max_of P.rows a) u.mu u.x u.r

  -- where k tries lead from u
  unfoldable pub tried_from : State → ℕ → State → State
  tried_from s zero u = u
  tried_from s (suc k) u = tried_from s k (try_in s u).state

  -- where the round's try begins that k others came before
  abbrev pub try_at : State → ℕ → State
  try_at s k = tried_from s k (begun P s)

  -- ---- the rounds

  -- where a round leads that does not end the fit: by whether it is within the tolerance, a try was taken, the polishing steps are spent
  abbrev pub onward : Bool → Bool → Bool → State → Try State
  onward true false spent s = stop
  onward true true true s = stop
  onward true true false s = go (polished P s)
  onward false true spent s = go s
  onward false false spent s = stop

  unfoldable pub next_round : ℕ → State → Try State
  next_round k s =
      let t = round_of P jacobian s in
      onward (within t.state.r) t.improved (eqb t.state.polish 0) t.state

  -- a fit from x begins a round at s that k others came before
  pub record Begins (x : List Float) (k : ℕ) (s : State) : Type 0 where
    pub outside : within (P.values x) ≡ false
    pub movable : length P.free ≢ 0
    pub reached : try_to k 0 next_round (start_of P x) ≡ go s

  -- a round in which all twelve tries come to nothing, outside the tolerance: it is the last, after i rounds and t tries
  pub record Stuck (x : List Float) (i t : ℕ) : Type 0 where
    pub before : ℕ
    pub at : State
    pub begins : Begins x before at
    pub within-limit : before < max_iter
    pub none : (k : ℕ) → k < max_tries → (try_in at (try_at at k)).improved ≡ false
    pub outside : within (P.values at.x) ≡ false
    pub rounds : i ≡ before + 1
    pub tries : t ≡ at.tries + max_tries

  -- the last round of all, which takes a try and is still outside the tolerance
  pub record Slow (x : List Float) (i t : ℕ) : Type 0 where
    pub before : ℕ
    pub at : State
    pub begins : Begins x before at
    pub last : before + 1 ≡ max_iter
    pub took : (round_of P jacobian at).improved ≡ true
    pub outside : within (round_of P jacobian at).state.r ≡ false
    pub rounds : i ≡ max_iter
    pub tries : t ≡ (round_of P jacobian at).state.tries

  -- what the twelfth try's elimination leads to
  abbrev pub twelfth : State → Reasoned Trial
  twelfth s = trial_in s (try_at s 11)

  -- what each reason says of a fit from x that ended after i rounds and t tries: of the twelve tries the last one's counts
  abbrev pub Because : List Float → ℕ → ℕ → Reason → Type 0
  Because x i t NothingFree = (within (P.values x) ≡ false) × (length P.free ≡ 0) × (i ≡ 0) × (t ≡ 0)
  Because x i t (NoPivot c) = (l : Stuck x i t) × (twelfth l.at ≡ no_pivot c)
  Because x i t NotFinite = (l : Stuck x i t) × (twelfth l.at ≡ not_finite)
  Because x i t NotLess = (l : Stuck x i t) × (trial : Trial) × (twelfth l.at ≡ some trial) × (better (try_at l.at 11) trial ≡ false)
  Because x i t Spent = Slow x i t

  -- a reason is given exactly when it holds
  abbrev pub WhyExactly : Type 0
  WhyExactly = (x : List Float) (w : Reason) (i t : ℕ) → solve_of P jacobian x ≡ failed w i t ↔ Because x i t w

  -- so a fit that failed says that nothing is free exactly when nothing is, names a column exactly with code 2, one of its rows, and
  -- where the iterations are spent there were as many as the limit
  pub record Tells (w : Reason) (i : ℕ) : Type 0 where
    pub nothing-free : w ≡ NothingFree ↔ length P.free ≡ 0
    pub no-column : named_column w ≡ 0 ↔ code_of w ≢ 2
    pub a-row : named_column w ≤ P.rows
    pub spent : w ≡ Spent → i ≡ max_iter

  abbrev pub TellsWhy : Type 0
  TellsWhy = (x : List Float) (w : Reason) (i t : ℕ) → solve_of P jacobian x ≡ failed w i t → Tells w i
