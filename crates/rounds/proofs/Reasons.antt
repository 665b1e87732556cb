-- Why a fit failed, exactly (specs/Reasons.antt). Assumes nothing.
use Prim.Native.Nat.{ℕ, zero, suc, ◌+◌, ◌-◌, ◌≤◌, ◌<◌}
use mathlib.Core.Bool.{Bool, true, false, cond, true≢false}
use mathlib.Core.List.{List}
use mathlib.Core.Logic.{◌≢◌}
use mathlib.Core.Path.{◌≡◌, refl, sym, ap, subst, ◌∙◌}
use native.Mathlib.Nat.{add-zero, zero-add, suc-add}
use native.Mathlib.Omega.{arith}
use borrow.Author.Tests.{eq-eqb, ne_eqb, eqb-true, eqb-false}
use lib.Dec.{eqb}
use lib.Ieee.{Float}
use lib.ListN.{length}
use Rattle.loops.proofs.Turning.{try_to-none, try_to-all, try_to-more}
use Rattle.loops.specs.Turns.{Try, go, stop, after, tries}
use Rattle.normal.specs.Normal.{product_of, diag_max_of}
use Rattle.solver.specs.Reasons.{Reasoned, some, no_pivot, not_finite, on_some}
use Rattle.solver.proofs.Reasons.{column-named}
use Rattle.rounds.proofs.Around.{tries-kept}
use Rattle.rounds.proofs.Turn.{of-try}
use Rattle.rounds.specs.Reasons.{code_of, named_column, try_in, trial_in, tried_from, try_at, onward, next_round, Begins, Stuck, Slow, twelfth, Because, WhyExactly, Tells, TellsWhy}
use Rattle.rounds.specs.Solve.{Problem, State, Trial, Tried, Outcome, converged, failed, within, better, taken, harder, judged, or_next, trial_of, try_of, tries_of, begun, round_of, polished, decided, ended, rounds_of, start_of, opened, solve_of}
use Rattle.rounds.specs.declared.Reason.{Reason}
use Rattle.rounds.specs.declared.Reason.TheVariants.{NothingFree, NoPivot, NotFinite, NotLess, Spent}

-- ---- a try

-- what a try that is not taken leaves of s, and what one that is says
abbrev Unmoved : State → Tried → Type 0
Unmoved s t = t.improved ≡ false → (t.state.r ≡ s.r) × (t.state.tries ≡ s.tries + 1)

abbrev SaysSpent : Tried → Type 0
SaysSpent t = t.improved ≡ true → t.state.why ≡ Spent

unmoved : (s : State) (o : Reasoned Trial) → Unmoved s (judged s o)
unmoved s = of-try (Unmoved s) s (λ t e. (cc, cc)) (λ w e. (refl, refl))

says-spent : (s : State) (o : Reasoned Trial) → SaysSpent (judged s o)
says-spent s = of-try SaysSpent s (λ t e. refl) (λ w e. cc)

module _ (P : Problem) (J : List Float → List Float) where
  -- ---- the tries of the round that is begun at s

  module _ (s : State) where
    abbrev jac : List Float
    jac = J s.x

    abbrev prod : List Float
    prod = product_of P.rows (length P.free) jac

    abbrev tries_in : ℕ → State → Tried
    tries_in k u = tries_of P jac prod (diag_max_of P.rows prod) k u

    try-unmoved : (u : State) → Unmoved u (try_in P J s u)
    unfolding try_of
    try-unmoved u = unmoved u (trial_in P J s u)

    try-spent : (u : State) → SaysSpent (try_in P J s u)
    unfolding try_of
    try-spent u = says-spent u (trial_in P J s u)

    -- the first k tries from u on are not taken
    abbrev NoneOf : ℕ → State → Type 0
    NoneOf k u = (n : ℕ) → n < k → (try_in P J s (tried_from P J s n u)).improved ≡ false

    none-taken : (k : ℕ) (u : State) → (tries_in k u).improved ≡ false → NoneOf k u × ((tries_in k u).state ≡ tried_from P J s k u)
    unfolding tries_of tried_from
    none-taken zero u e = (λ n h. absurd (omega (arith, h)), refl)
    none-taken (suc k) u e = by (try_in P J s u).improved refl (none-taken k (try_in P J s u).state) e
      where
        by : (b : Bool) → (try_in P J s u).improved ≡ b
            → ((tries_in k (try_in P J s u).state).improved ≡ false
            → NoneOf k (try_in P J s u).state × ((tries_in k (try_in P J s u).state).state ≡ tried_from P J s k (try_in P J s u).state))
            → (or_next b (try_in P J s u).state (tries_in k)).improved ≡ false
            → NoneOf (suc k) u × ((or_next b (try_in P J s u).state (tries_in k)).state ≡ tried_from P J s k (try_in P J s u).state)
        by true q rest e = (λ n h. cc, cc)
        by false q rest e = (λ n h. at n h, (rest e).1)
          where
            at : (n : ℕ) → n < suc k → (try_in P J s (tried_from P J s n u)).improved ≡ false
            at zero h = q
            at (suc n) h = (rest e).0 n (omega arith)

    all_left : (k : ℕ) (u : State) → NoneOf k u → tries_in k u ≡ record { improved = false; state = tried_from P J s k u }
    unfolding tries_of tried_from
    all_left zero u h = refl
    all_left (suc k) u h = rw (h 0 (omega arith)) (all_left k (try_in P J s u).state (λ n l. h (suc n) (omega arith)))

    taken-spent : (k : ℕ) (u : State) → (tries_in k u).improved ≡ true → (tries_in k u).state.why ≡ Spent
    unfolding tries_of
    taken-spent zero u e = cc
    taken-spent (suc k) u e = by (try_in P J s u).improved refl (taken-spent k (try_in P J s u).state) e
      where
        by : (b : Bool) → (try_in P J s u).improved ≡ b → ((tries_in k (try_in P J s u).state).improved ≡ true → (tries_in k (try_in P J s u).state).state.why ≡ Spent)
            → (or_next b (try_in P J s u).state (tries_in k)).improved ≡ true → (or_next b (try_in P J s u).state (tries_in k)).state.why ≡ Spent
        by true q rest e = try-spent u q
        by false q rest e = rest e

    from_last : (k : ℕ) (u : State) → tried_from P J s (suc k) u ≡ (try_in P J s (tried_from P J s k u)).state
    unfolding tried_from
    from_last zero u = refl
    from_last (suc k) u = from_last k (try_in P J s u).state

    left_after : (k : ℕ) (u : State) → NoneOf k u → ((tried_from P J s k u).r ≡ u.r) × ((tried_from P J s k u).tries ≡ u.tries + k)
    unfolding tried_from
    left_after zero u h = (refl, omega arith)
    left_after (suc k) u h =
        let one : ((try_in P J s u).state.r ≡ u.r) × ((try_in P J s u).state.tries ≡ u.tries + 1) = try-unmoved u (h 0 (omega arith)) in
        let rest = left_after k (try_in P J s u).state (λ n l. h (suc n) (omega arith)) in
        (rest.0 ∙ one.0, omega (arith, rest.1, one.1))

    -- ---- the round

    round-tries : round_of P J s ≡ tries_in 12 (begun P s)
    unfolding round_of
    round-tries = refl

    round-iterations : (round_of P J s).state.iterations ≡ s.iterations + 1
    unfolding round_of
    round-iterations = tries-kept P jac prod (diag_max_of P.rows prod) 12 (begun P s)

    round-spent : (round_of P J s).improved ≡ true → (round_of P J s).state.why ≡ Spent
    round-spent e = ap (λ (t : Tried). t.state.why) round-tries ∙ taken-spent 12 (begun P s) (ap (λ (t : Tried). t.improved) (sym round-tries) ∙ e)

    round-none : (round_of P J s).improved ≡ false → NoneOf 12 (begun P s) × ((round_of P J s).state ≡ try_at P J s 12)
    round-none e =
        let h = none-taken 12 (begun P s) (ap (λ (t : Tried). t.improved) (sym round-tries) ∙ e) in
        (h.0, ap (λ (t : Tried). t.state) round-tries ∙ h.1)

    -- what the twelfth try leaves, and says
    last-try : try_at P J s 12 ≡ (judged (try_at P J s 11) (twelfth P J s)).state
    unfolding try_of
    last-try = from_last 11 (begun P s)

    not_taken : NoneOf 12 (begun P s) → (judged (try_at P J s 11) (twelfth P J s)).improved ≡ false
    unfolding try_of
    not_taken h = h 11 (omega arith)

  -- a round more is counted where it leads on
  onward-kept : (w i p : Bool) (s u : State) → onward P J w i p s ≡ go u → u.iterations ≡ s.iterations
  onward-kept true false p s u e = cc
  onward-kept true true true s u e = cc
  onward-kept true true false s u e = let q : polished P s ≡ u = cc in ap (λ (v : State). v.iterations) (sym q)
  onward-kept false true p s u e = let q : s ≡ u = cc in ap (λ (v : State). v.iterations) (sym q)
  onward-kept false false p s u e = cc

  next-counted : (k : ℕ) (s u : State) → next_round P J k s ≡ go u → u.iterations ≡ s.iterations + 1
  unfolding next_round
  next-counted k s u e = onward-kept (within (round_of P J s).state.r) (round_of P J s).improved (eqb (round_of P J s).state.polish 0) (round_of P J s).state u e ∙ round-iterations s

  rounds-counted : (n i : ℕ) (s u : State) → tries n i (next_round P J) s ≡ go u → u.iterations ≡ s.iterations + n
  unfolding tries
  rounds-counted zero i s u e = let q : s ≡ u = cc in rw (q, add-zero)
  rounds-counted (suc n) i s u e = by (next_round P J i s) refl e (rounds-counted n (i + 1))
    where
      by : (t : Try State) → next_round P J i s ≡ t → after t (tries n (i + 1) (next_round P J)) ≡ go u
          → ((v u : State) → tries n (i + 1) (next_round P J) v ≡ go u → u.iterations ≡ v.iterations + n) → u.iterations ≡ s.iterations + suc n
      by (go v) q e rest = omega (arith, rest v u e, next-counted i s v q)
      by stop q e rest = cc

  begun-counted : (x : List Float) (n : ℕ) (s : State) → Begins P J x n s → s.iterations ≡ n
  begun-counted x n s b = rounds-counted n 0 (start_of P x) s (sym (try_to-all (next_round P J) n (start_of P x)) ∙ b.reached) ∙ zero-add n

  -- ---- from the fit to its reason

  module _ (x : List Float) where
    Explained : Outcome → Type 0
    Explained (converged y i t) = Unit {0}
    Explained (failed w i t) = Because P J x i t w

    by-try : (i t : ℕ) (l : Stuck P J x i t) (o : Reasoned Trial) → twelfth P J l.at ≡ o → (judged (try_at P J l.at 11) o).improved ≡ false
        → Because P J x i t (judged (try_at P J l.at 11) o).state.why
    by-try i t l (some trial) e h = pick (better (try_at P J l.at 11) trial) refl h
      where
        pick : (b : Bool) → better (try_at P J l.at 11) trial ≡ b
            → (cond {A = Tried} b (record { improved = true; state = taken (try_at P J l.at 11) trial }) (record { improved = false; state = harder NotLess (try_at P J l.at 11) })).improved ≡ false
            → Because P J x i t (cond {A = Tried} b (record { improved = true; state = taken (try_at P J l.at 11) trial }) (record { improved = false; state = harder NotLess (try_at P J l.at 11) })).state.why
        pick true q h = absurd (true≢false cc)
        pick false q h = (l, trial, e, q)
    by-try i t l (no_pivot c) e h = (l, e)
    by-try i t l not_finite e h = (l, e)

    module _ (n : ℕ) (s : State) (b : Begins P J x n s) where
      abbrev round : Tried
      round = round_of P J s

      stuck : n < 200 → round.improved ≡ false → within round.state.r ≡ false → Explained (failed round.state.why round.state.iterations round.state.tries)
      unfolding Explained
      stuck h e w =
          let (none, st) = round-none s e in
          let same = left_after s 12 (begun P s) none in
          let l : Stuck P J x round.state.iterations round.state.tries = record {
            before = n;
            at = s;
            begins = b;
            within-limit = h;
            none = none;
            outside = ap within (sym same.0 ∙ ap (λ (u : State). u.r) (sym st)) ∙ w;
            rounds = round-iterations s ∙ ap (λ k. k + 1) (begun-counted x n s b);
            tries = ap (λ (u : State). u.tries) st ∙ same.1;
          } in
          subst (λ (u : State). Because P J x round.state.iterations round.state.tries u.why) (sym (last-try s) ∙ sym st)
          (by-try round.state.iterations round.state.tries l (twelfth P J s) refl (not_taken s none))

      slow : n + 1 ≡ 200 → round.improved ≡ true → within round.state.r ≡ false → Explained (failed round.state.why round.state.iterations round.state.tries)
      unfolding Explained
      slow h e w =
          subst (λ r. Because P J x round.state.iterations round.state.tries r) (sym (round-spent s e))
          (record {
            before = n;
            at = s;
            begins = b;
            last = h;
            took = e;
            outside = w;
            rounds = round-iterations s ∙ ap (λ k. k + 1) (begun-counted x n s b) ∙ h;
            tries = refl;
          })

      -- by what a round comes to, and what further rounds come to
      by-round : (next : State → Outcome) → n < 200
          → ((w i p : Bool) → within round.state.r ≡ w → round.improved ≡ i → eqb round.state.polish 0 ≡ p → (u : State) → onward P J w i p round.state ≡ go u → Explained (next u))
          → (w i p : Bool) → within round.state.r ≡ w → round.improved ≡ i → eqb round.state.polish 0 ≡ p → Explained (ended P w i p round.state next)
      unfolding Explained
      by-round next h on true false p ew ei ep = tt
      by-round next h on true true true ew ei ep = tt
      by-round next h on true true false ew ei ep = on true true false ew ei ep (polished P round.state) refl
      by-round next h on false true p ew ei ep = on false true p ew ei ep round.state refl
      by-round next h on false false p ew ei ep = rw ew (stuck h ei ew)

      after_last : n + 1 ≡ 200 → (w i p : Bool) → within round.state.r ≡ w → round.improved ≡ i → (u : State) → onward P J w i p round.state ≡ go u → Explained (decided P u)
      unfolding Explained
      after_last h true false p ew ei u e = absurd (true≢false cc)
      after_last h true true true ew ei u e = absurd (true≢false cc)
      after_last h true true false ew ei u e = let q : polished P round.state ≡ u = cc in subst (λ v. Explained (decided P v)) q (rw ew tt)
      after_last h false true p ew ei u e = let q : round.state ≡ u = cc in subst (λ v. Explained (decided P v)) q (rw ew (slow h ei ew))
      after_last h false false p ew ei u e = absurd (true≢false cc)

      leads : (w i p : Bool) (u : State) → within round.state.r ≡ w → round.improved ≡ i → eqb round.state.polish 0 ≡ p → onward P J w i p round.state ≡ go u → next_round P J n s ≡ go u
      unfolding next_round
      leads w i p u ew ei ep e = rw (ew, ei, ep) e

    begins-next : (n : ℕ) (s u : State) → Begins P J x n s → next_round P J n s ≡ go u → Begins P J x (n + 1) u
    begins-next n s u b e = record { outside = b.outside; movable = b.movable; reached = try_to-more (next_round P J) n (start_of P x) s u b.reached e }

    rounds-given : (k n : ℕ) (s : State) → n + suc k ≡ 200 → Begins P J x n s → Explained (rounds_of P J (suc k) s)
    unfolding rounds_of
    rounds-given zero n s h b =
        by-round n s b (decided P) (omega arith) (λ w i p ew ei ep. after_last n s b (omega arith) w i p ew ei) (within (round_of P J s).state.r) (round_of P J s).improved
        (eqb (round_of P J s).state.polish 0) refl refl refl
    rounds-given (suc k) n s h b =
        by-round n s b (rounds_of P J (suc k)) (omega arith)
        (λ w i p ew ei ep u e. rounds-given k (n + 1) u (omega arith) (begins-next n s u b (leads n s b w i p u ew ei ep e)))
        (within (round_of P J s).state.r) (round_of P J s).improved (eqb (round_of P J s).state.polish 0) refl refl refl

    opened-given : (w f : Bool) → within (P.values x) ≡ w → eqb (length P.free) 0 ≡ f → Explained (opened P J w f x)
    unfolding Explained
    opened-given true f ew ef = tt
    opened-given false true ew ef = (ew, eqb-true (length P.free) 0 ef, refl, refl)
    opened-given false false ew ef =
        rounds-given 199 0 (start_of P x) (omega arith)
        (record { outside = ew; movable = eqb-false (length P.free) 0 ef; reached = try_to-none (next_round P J) (start_of P x) })

    pub given : (w : Reason) (i t : ℕ) → solve_of P J x ≡ failed w i t → Because P J x i t w
    unfolding solve_of Explained
    given w i t e = subst Explained e (opened-given (within (P.values x)) (eqb (length P.free) 0) refl refl)

  -- ---- from a reason to the fit

  onward-on : (w i p : Bool) (s u : State) (next : State → Outcome) → onward P J w i p s ≡ go u → ended P w i p s next ≡ next u
  onward-on true false p s u next e = cc
  onward-on true true true s u next e = cc
  onward-on true true false s u next e = let q : polished P s ≡ u = cc in ap next q
  onward-on false true p s u next e = let q : s ≡ u = cc in ap next q
  onward-on false false p s u next e = cc

  round-on : (i k : ℕ) (s v : State) → next_round P J i s ≡ go v → rounds_of P J (suc k) s ≡ rounds_of P J k v
  unfolding rounds_of next_round
  round-on i k s v e = onward-on (within (round_of P J s).state.r) (round_of P J s).improved (eqb (round_of P J s).state.polish 0) (round_of P J s).state v (rounds_of P J k) e

  reach : (n i k : ℕ) (s u : State) → tries n i (next_round P J) s ≡ go u → rounds_of P J (n + k) s ≡ rounds_of P J k u
  unfolding tries
  reach zero i k s u e = let q : s ≡ u = cc in rw (zero-add, q)
  reach (suc n) i k s u e = by (next_round P J i s) refl e (reach n (i + 1) k)
    where
      by : (t : Try State) → next_round P J i s ≡ t → after t (tries n (i + 1) (next_round P J)) ≡ go u
          → ((v u : State) → tries n (i + 1) (next_round P J) v ≡ go u → rounds_of P J (n + k) v ≡ rounds_of P J k u) → rounds_of P J (suc n + k) s ≡ rounds_of P J k u
      by (go v) q e rest = rw suc-add (round-on i (n + k) s v q ∙ rest v u e)
      by stop q e rest = cc

  module _ (x : List Float) where
    reached-rounds : (n k : ℕ) (s : State) → n + k ≡ 200 → Begins P J x n s → solve_of P J x ≡ rounds_of P J k s
    unfolding solve_of
    reached-rounds n k s h b =
        rw (b.outside, ne_eqb (length P.free) 0 b.movable) (rw h at (reach n 0 k (start_of P x) s (sym (try_to-all (next_round P J) n (start_of P x)) ∙ b.reached)))

    module _ (i t : ℕ) (w : Reason) where
      stuck-fails : (l : Stuck P J x i t) → w ≡ (judged (try_at P J l.at 11) (twelfth P J l.at)).state.why → solve_of P J x ≡ failed w i t
      unfolding rounds_of
      stuck-fails l e =
          let s = l.at in
          let k = 200 - (l.before + 1) in
          let same = left_after s 12 (begun P s) l.none in
          let it : round_of P J s ≡ record { improved = false; state = try_at P J s 12 } = round-tries s ∙ all_left s 12 (begun P s) l.none in
          let outside : within (try_at P J s 12).r ≡ false = ap within same.0 ∙ l.outside in
          let why : (try_at P J s 12).why ≡ w = ap (λ (u : State). u.why) (last-try s) ∙ sym e in
          let rounds : (try_at P J s 12).iterations ≡ i = ap (λ (u : Tried). u.state.iterations) (sym it) ∙ round-iterations s ∙ ap (λ k. k + 1) (begun-counted x l.before s l.begins) ∙ sym l.rounds in
          let tries : (try_at P J s 12).tries ≡ t = same.1 ∙ sym l.tries in
          reached-rounds l.before (suc k) s (omega (arith, l.within-limit)) l.begins ∙ rw (it, outside, outside, why, rounds, tries)

      slow-fails : Slow P J x i t → solve_of P J x ≡ failed Spent i t
      unfolding rounds_of
      slow-fails l =
          let s = l.at in
          let rounds : (round_of P J s).state.iterations ≡ i = round-iterations s ∙ ap (λ k. k + 1) (begun-counted x l.before s l.begins) ∙ l.last ∙ sym l.rounds in
          reached-rounds l.before 1 s l.last l.begins ∙ rw (l.outside, l.took, l.outside, round-spent s l.took, rounds, l.tries)

      nothing-fails : (within (P.values x) ≡ false) × (length P.free ≡ 0) × (i ≡ 0) × (t ≡ 0) → solve_of P J x ≡ failed NothingFree i t
      unfolding solve_of
      nothing-fails (e, f, a, b) = rw (e, eq-eqb (length P.free) 0 f, a, b)

    fails : (w : Reason) (i t : ℕ) → Because P J x i t w → solve_of P J x ≡ failed w i t
    fails NothingFree i t h = nothing-fails i t NothingFree h
    fails (NoPivot c) i t (l, e) = stuck-fails i t (NoPivot c) l (rw e)
    fails NotFinite i t (l, e) = stuck-fails i t NotFinite l (rw e)
    fails NotLess i t (l, trial, e, h) = stuck-fails i t NotLess l (rw (e, h))
    fails Spent i t l = slow-fails i t Spent l

  pub why-exactly : WhyExactly P J
  why-exactly x w i t = (given x w i t, fails x w i t)

  -- ---- what follows

  -- a column is named by elimination alone
  named_by : (c : ℕ) (F : Reasoned (List Float)) (next : List Float → Trial) → on_some F (λ y. some (next y)) ≡ no_pivot c → F ≡ no_pivot c
  named_by c (some y) next e = cc
  named_by c (no_pivot d) next e = cc
  named_by c not_finite next e = cc

  column-of : (s u : State) (c : ℕ) → trial_in P J s u ≡ no_pivot c → (0 < c) × (c ≤ P.rows)
  unfolding trial_of
  column-of s u c e = column-named P.rows _ u.r c (named_by c _ _ e)

  -- a reason without a column, of a fit with something free
  no-column : (w : Reason) (i : ℕ) → length P.free ≢ 0 → w ≢ NothingFree → named_column w ≡ 0 → code_of w ≢ 2 → (w ≡ Spent → i ≡ 200) → Tells P J w i
  no-column w i movable n c d h = record {
    nothing-free = (λ q. absurd (n q), λ q. absurd (movable q));
    no-column = (λ q. d, λ q. c);
    a-row = rw c (omega arith);
    spent = h;
  }

  pub tells-why : TellsWhy P J
  tells-why x w i t e = by w (given x w i t e)
    where
      by : (w : Reason) → Because P J x i t w → Tells P J w i
      by NothingFree (ew, ef, ei, et) = record { nothing-free = (λ q. ef, λ q. refl); no-column = (λ q r. true≢false cc, λ q. refl); a-row = omega arith; spent = λ q. cc }
      by (NoPivot c) (l, q) =
          let h = column-of l.at (try_at P J l.at 11) c q in
          record { nothing-free = (λ q. cc, λ q. absurd (l.begins.movable q)); no-column = (λ q. absurd (omega (arith, h.0)), λ q. absurd (q refl)); a-row = h.1; spent = λ q. cc }
      by NotFinite (l, q) = no-column NotFinite i l.begins.movable (λ r. true≢false cc) refl (λ r. true≢false cc) (λ r. cc)
      by NotLess (l, trial, q, h) = no-column NotLess i l.begins.movable (λ r. true≢false cc) refl (λ r. true≢false cc) (λ r. cc)
      by Spent l = no-column Spent i l.begins.movable (λ r. true≢false cc) refl (λ r. true≢false cc) (λ r. l.rounds)
