-- solver.rs, `solve`: the damped fit, with its iterations and tries counted, and why it failed (document 02, K6). Its two loops are
-- recursions on the rounds and on the tries that are left.
use Rattle.std.specs.Prelude.{ℕ, zero, suc, ◌+◌, ◌-◌, Bool, true, false, cond, ◌&&◌, List, eqb, Float, length}
use Rattle.std.specs.Float.Ieee.{le, lt}
use Rattle.std.specs.Float.Ieee.Scale.{finite}
use Rattle.floats.specs.Largest.{max_abs_of}
use Rattle.floats.specs.Magnitude.{max_of}
use Rattle.floats.specs.Ops.{◌⊗◌, ten, tenth, 1e-10, 1e-12, 1e-15}
use Rattle.normal.specs.Normal.{product_of, diag_max_of, damped_of, moved_of}
use Rattle.solver.specs.Reasons.{Reasoned, some, no_pivot, not_finite, on_some, reasoned_of}
use Rattle.solver.specs.Sums.{norm2_of}
use Rattle.rounds.specs.declared.Reason.{Reason}
use Rattle.rounds.specs.declared.Reason.TheVariants.{NothingFree, NoPivot, NotFinite, NotLess, Spent}

-- What the Rust's closure `f` knows of the residuals: their values at given coordinates, how many there are, and which
-- coordinates are free. The dense Jacobian at given coordinates stands beside it.
pub record Problem : Type 0 where
  pub values : List Float → List Float
  pub rows : ℕ
  pub free : List ℕ

-- where the fit stands: `x`, `r`, `cost`, `mu`, `polish`, the rounds and tries begun, and what is said where it fails here: that nothing is
-- free before any try, then the last try's reason, and that the iterations are spent where that try was taken
pub record State : Type 0 where
  pub x : List Float
  pub r : List Float
  pub cost : Float
  pub mu : Float
  pub polish : ℕ
  pub iterations : ℕ
  pub tries : ℕ
  pub why : Reason

-- A fit that failed has no coordinates to hand out, and says why. Behind these, its iterations and tries.
pub data Outcome : Type 0 where
  converged : List Float → ℕ → ℕ → Outcome
  failed : Reason → ℕ → ℕ → Outcome

-- `MAX_ITER`, the tries of an iteration, `POLISH`
abbrev pub max_iter : ℕ
max_iter = 200

abbrev pub max_tries : ℕ
max_tries = 12

abbrev pub polish_steps : ℕ
polish_steps = 3

-- max_abs(&r) <= tol
abbrev pub within : List Float → Bool
within r = le (max_abs_of r) 1e-12

-- what a try comes to: `xn`, `rn` and `cn`
pub record Trial : Type 0 where
  pub x : List Float
  pub r : List Float
  pub cost : Float

-- cn.is_finite() && cn < cost
abbrev pub better : State → Trial → Bool
better s t = finite t.cost && lt t.cost s.cost

-- the trial is taken: mu = (mu * 0.1).max(1e-15)
abbrev pub taken : State → Trial → State
taken s t = record {
  x = t.x;
  r = t.r;
  cost = t.cost;
  mu = max_of (s.mu ⊗ tenth) 1e-15;
  polish = s.polish;
  iterations = s.iterations;
  tries = s.tries + 1;
  why = Spent;
}

-- the trial is not taken: mu *= 10.0
abbrev pub harder : Reason → State → State
harder w s = record {
  x = s.x;
  r = s.r;
  cost = s.cost;
  mu = s.mu ⊗ ten;
  polish = s.polish;
  iterations = s.iterations;
  tries = s.tries + 1;
  why = w;
}

-- a try, or a round's tries: whether one was taken, and where that leaves the fit
pub record Tried : Type 0 where
  pub improved : Bool
  pub state : State

abbrev pub judged : State → Reasoned Trial → Tried
judged s (some t) = cond (better s t) (record { improved = true; state = taken s t }) (record { improved = false; state = harder NotLess s })
judged s (no_pivot c) = record { improved = false; state = harder (NoPivot c) s }
judged s not_finite = record { improved = false; state = harder NotFinite s }

-- `break` where a try was taken, else the next
abbrev pub or_next : Bool → State → (State → Tried) → Tried
or_next true s next = record { improved = true; state = s }
or_next false s next = next s

module _ (P : Problem) where
  abbrev pub trial_at : List Float → Trial
  trial_at xn = record { x = xn; r = P.values xn; cost = norm2_of (P.values xn) }

  -- the trial of a try, with the Jacobian j, the product a and the largest m on its diagonal
  unfoldable pub trial_of : List Float → List Float → Float → Float → List Float → List Float → Reasoned Trial
  trial_of j a m mu x r =
      on_some (reasoned_of P.rows (damped_of P.rows mu m a) r)
      (λ y. some (trial_at (moved_of P.rows (length P.free) j y P.free x)))

  unfoldable pub try_of : List Float → List Float → Float → State → Tried
  try_of j a m s = judged s (trial_of j a m s.mu s.x s.r)

  -- for _ in 0..12, `max_tries`
  unfoldable pub tries_of : List Float → List Float → Float → ℕ → State → Tried
  tries_of j a m zero s = record { improved = false; state = s }
  tries_of j a m (suc k) s = let t = try_of j a m s in or_next t.improved t.state (tries_of j a m k)

  abbrev pub begun : State → State
  begun s = record {
    x = s.x;
    r = P.values s.x;
    cost = s.cost;
    mu = s.mu;
    polish = s.polish;
    iterations = s.iterations + 1;
    tries = s.tries;
    why = s.why;
  }

  abbrev pub polished : State → State
  polished s = record {
    x = s.x;
    r = s.r;
    cost = s.cost;
    mu = s.mu;
    polish = s.polish - 1;
    iterations = s.iterations;
    tries = s.tries;
    why = s.why;
  }

  abbrev pub done : State → Outcome
  done s = converged s.x s.iterations s.tries

  -- after the last round the tolerance decides
  abbrev pub decided : State → Outcome
  decided s = cond (within s.r) (done s) (failed s.why s.iterations s.tries)

  -- after a round: within the tolerance, whether a try was taken, whether the polishing steps are spent
  abbrev pub ended : Bool → Bool → Bool → State → (State → Outcome) → Outcome
  ended true false spent s next = done s
  ended true true true s next = done s
  ended true true false s next = next (polished s)
  ended false true spent s next = next s
  ended false false spent s next = decided s

  abbrev pub start_of : List Float → State
  start_of x = record {
    x = x;
    r = P.values x;
    cost = norm2_of (P.values x);
    mu = 1e-10;
    polish = polish_steps;
    iterations = 0;
    tries = 0;
    why = NothingFree;
  }

  module _ (jacobian : List Float → List Float) where
    unfoldable pub round_of : State → Tried
    round_of s =
        let j = jacobian s.x in
        let a = product_of P.rows (length P.free) j in
        tries_of j a (diag_max_of P.rows a) max_tries (begun s)

    -- for _ in 0..MAX_ITER
    unfoldable pub rounds_of : ℕ → State → Outcome
    rounds_of zero s = decided s
    rounds_of (suc k) s =
        let t = round_of s in
        ended (within t.state.r) t.improved (eqb t.state.polish 0) t.state (rounds_of k)

    -- converged at the start, even with nothing free; else nothing free; else the rounds
    abbrev pub opened : Bool → Bool → List Float → Outcome
    opened true fixed x = converged x 0 0
    opened false true x = failed NothingFree 0 0
    opened false false x = rounds_of max_iter (start_of x)

    unfoldable pub solve_of : List Float → Outcome
    solve_of x = opened (within (P.values x)) (eqb (length P.free) 0) x
