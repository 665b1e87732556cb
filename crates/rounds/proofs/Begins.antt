-- From what the calls of a fit's beginning promise to the definition. Assumes nothing.
use Prim.Native.Nat.{ℕ, ◌+◌, ◌*◌, ◌≤◌}
use mathlib.Core.Bool.{Bool, true, false, ◌||◌}
use mathlib.Core.List.{List, ◌++◌}
use mathlib.Core.Path.{◌≡◌, refl, ◌∙◌}
use native.Mathlib.Nat.{mul-le-mul}
use native.Mathlib.Omega.{arith}
use borrow.Author.Tests.{ltb-false, le-ltb}
use lib.Dec.{eqb, ltb}
use lib.Ieee.{Float}
use lib.ListN.{length, take, drop, replicate}
use lib.Seq.{length-take-le}
use Rattle.floats.specs.Ops.{zero⁺}
use Rattle.std.specs.Prelude.{Ok, Err}
use Rattle.sketch.specs.declared.Active.{Active}
use Rattle.sketch.specs.declared.Line.{Line}
use Rattle.rounds.specs.Promise.{saying, zeroed, too_many, too_short, Solves, Leaves}
use Rattle.rounds.specs.Solve.{Problem, converged, opened, within, solve_of}
use Rattle.rounds.specs.declared.Fit.{Fit}
use Rattle.rounds.specs.declared.Solved.{Solved}
use Rattle.rounds.specs.declared.Unfitted.TheVariants.{Failed, Refused}
use Rattle.slices.specs.declared.Refusal.TheVariants.{TooShort}

-- a fit from x with its own residuals r, by what is asked of it first
module _ (P : Problem) (J : List Float → List Float) (x r : List Float) (w : Bool) (own : r ≡ P.values x) (e : w ≡ within r) where
  pub solves : (f : Bool) → f ≡ eqb (length P.free) 0 → opened P J w f x ≡ solve_of P J x
  unfolding solve_of
  solves f z = rw (e, z, own)

  -- where it is within the tolerance at once, nothing else is asked
  pub solves_at_once : w ≡ true → converged x 0 0 ≡ solve_of P J x
  solves_at_once h = rw h at (solves (eqb (length P.free) 0) refl)

-- ---- the slices

pub table : (m n : ℕ) → m ≤ 80 → n ≤ 80 → m * n ≤ 6400
table m n h k = mul-le-mul h k

pub fits_in : (m n k : ℕ) → m ≤ 80 → n ≤ 80 → 6400 ≤ k → m * n ≤ k
fits_in m n k h l t = let p = table m n h l in omega arith

pub half_table : (m : ℕ) → m ≤ 80 → m * (m + 1) ≤ 6480
half_table m h = let k : m + 1 ≤ 81 = omega arith in mul-le-mul h k

-- a part of n places that is lent
pub lent : (k n : ℕ) (a : List Float) → k ≡ n → k ≤ length a → length (take k a) ≡ n
lent k n a e h = length-take-le k a h ∙ e

-- and comes back filled with +0.0
pub cleared : (k n : ℕ) (a y z : List Float) → k ≡ n → k ≤ length a → length y ≡ length (take k a) → z ≡ replicate (length y) zero⁺ → z ++ drop k a ≡ zeroed n a
cleared k n a y z e h l q = let m : length y ≡ n = l ∙ lent k n a e h in rw (q, m, e)

-- ---- the public call

module _ (es : List Active) (ls : List Line) (places columns chosen free : List ℕ) (x a b c : List Float)
    (few : length chosen ≤ 40) (narrow : length free ≤ 80) (short : length x ≤ 80) where
  none-many : too_many es ls places columns chosen free x a b c ≡ false
  none-many = rw (le-ltb 40 (length chosen) few, le-ltb 80 (length free) narrow, le-ltb 80 (length x) short)

  pub refused_short : (s : Solved) → too_short es ls places columns chosen free x a b c ≡ true → s ≡ saying (Err (Refused TooShort)) 0 0
      → Solves es ls places columns chosen free x a b c x a b c s
  refused_short s h e = record {
    answer = rw (none-many, h, e);
    meaning = rw (e, none-many, h);
    coordinates = rw (none-many, h);
    jacobian = rw (none-many, h);
    product = rw (none-many, h);
    copy = rw (none-many, h);
  }

  module _ (la : 6400 ≤ length a) (lb : 6400 ≤ length b) (lc : 6400 ≤ length c) (here y a' b' c' : List Float) (begins : here ≡ x) (f : Fit) (s : Solved) where
    n : too_short es ls places columns chosen free x a b c ≡ false
    n = rw (le-ltb (length a) 6400 la, le-ltb (length b) 6400 lb, le-ltb (length c) 6400 lc)

    pub done_converged : Leaves es ls places columns chosen free here a b c y a' b' c' (Ok f) → s ≡ saying (Ok tt) f.iterations f.tries → (x' : List Float) → x' ≡ y
        → Solves es ls places columns chosen free x a b c x' a' b' c' s
    done_converged l t x' ex =
        let g = rw begins at l.outcome in
        record { answer = rw (none-many, n, ← g, t); meaning = rw (t, none-many, n, ← g, ex); coordinates = rw (none-many, n, ← g, ex); jacobian = rw (none-many, n, l.jacobian); product = rw (none-many, n, l.product); copy = rw (none-many, n, l.copy) }

    pub done_failed : Leaves es ls places columns chosen free here a b c y a' b' c' (Err f) → s ≡ saying (Err (Failed f.why)) f.iterations f.tries
        → Solves es ls places columns chosen free x a b c x a' b' c' s
    done_failed l t =
        let g = rw begins at l.outcome in
        record { answer = rw (none-many, n, ← g, t); meaning = rw (t, none-many, n, ← g); coordinates = rw (none-many, n, ← g); jacobian = rw (none-many, n, l.jacobian); product = rw (none-many, n, l.product); copy = rw (none-many, n, l.copy) }

or-first : (a b : Bool) → (a || b) ≡ false → a ≡ false
or-first false b h = refl
or-first true b h = h

or-second : (a b : Bool) → (a || b) ≡ false → b ≡ false
or-second false b h = h
or-second true b h = cc

pub none-short : (a b c : ℕ) → (ltb a 6400 || ltb b 6400 || ltb c 6400) ≡ false → (6400 ≤ a) × (6400 ≤ b) × (6400 ≤ c)
none-short a b c h =
    let p = or-first (ltb a 6400 || ltb b 6400) (ltb c 6400) h in (
      ltb-false a 6400 (or-first (ltb a 6400) (ltb b 6400) p),
      ltb-false b 6400 (or-second (ltb a 6400) (ltb b 6400) p),
      ltb-false c 6400 (or-second (ltb a 6400 || ltb b 6400) (ltb c 6400) h),
    )
