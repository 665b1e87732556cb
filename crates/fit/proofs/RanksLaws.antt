-- From what the calls of `freedom` promise to its definition. Assumes nothing.
use Prim.Native.Nat.{ℕ, ◌+◌, ◌-◌, ◌*◌, ◌≤◌, ◌<◌}
use mathlib.Core.Bool.{true, false}
use mathlib.Core.List.{List, ◌++◌}
use mathlib.Core.Path.{◌≡◌, sym, ap, ◌∙◌}
use native.Mathlib.Nat.{le_refl, mul-le-mul_right}
use native.Mathlib.Omega.{arith}
use borrow.Author.Tests.{le-ltb, lt-ltb}
use lib.Ieee.{Float}
use lib.ListN.{length, take, drop, replicate, length-append, length-drop}
use lib.Seq.{length-take-le, take_at, drop_at, drop-drop, drop-append-add}
use Rattle.floats.specs.Ops.{zero⁺}
use Rattle.members.specs.Lists.{numbers_of}
use Rattle.members.specs.Movable.{indices_of}
use Rattle.nullspace.specs.Promise.{Spans, checked, decomposed_of, vectors_of}
use Rattle.nullspace.specs.Steps.{rank_of}
use Rattle.rounds.proofs.Begins.{fits_in}
use Rattle.rounds.proofs.Column.{table_is, jacobian-long, rows_few}
use Rattle.rounds.specs.Problem.{row_count, jacobian_at}
use Rattle.rounds.specs.Promise.{zeroed}
use Rattle.rows.specs.Column.{Laid, laid}
use Rattle.sketch.specs.declared.Build.{Build}
use Rattle.slopes.specs.Dense.{jacobian_of}
use Rattle.fit.specs.Fits.{gradients_of, freedom_of}
use Rattle.fit.specs.Inside.{Lays, Ranks}
use Rattle.fit.specs.Promise.{frame_over_rows, short, Frees}
use Rattle.fit.specs.declared.Frame.{Frame}
use Rattle.fit.specs.declared.Uncounted.{Uncounted}
use Rattle.slices.specs.declared.Refusal.{Refusal}
use Rattle.slices.specs.declared.Refusal.TheVariants.{TooMany, TooShort}
use Rattle.loops.specs.Numbers.{values}
use Rattle.std.specs.Prelude.{Result, Ok, Err}
use Rattle.std.specs.Result.{result_unwrap_or}

-- ---- the gradients

abbrev count : Laid → ℕ
count (laid n r) = n

abbrev laid_in : Laid → List Float
laid_in (laid n r) = r

module _ (b : Build) (f : Frame) (nf : ℕ) (x p p' : List Float) (rows : ℕ) (free : nf ≡ length (indices_of f.free)) (narrow : nf ≤ 80) (room : 6400 ≤ length p)
    (few : length (numbers_of f.equations.0) ≤ 40)
    (e : laid rows p' ≡ jacobian_of b.equations b.lines f.places x f.columns nf (numbers_of f.equations.0) p) where
  abbrev own : List ℕ
  own = numbers_of f.equations.0

  abbrev all : ℕ
  all = row_count b.equations own

  rows-most : all ≤ 80
  rows-most = rows_few b.equations own few

  made : laid rows p' ≡ laid all (jacobian_at b.equations b.lines f.places own f.columns nf x ++ drop (all * nf) p)
  made =
      e
      ∙ table_is b.equations b.lines f.places f.columns own nf x p few narrow (fits_in all nf (length p) rows-most narrow room)

  is-gradients : jacobian_at b.equations b.lines f.places own f.columns nf x ≡ gradients_of b f x
  unfolding gradients_of
  is-gradients = ap (λ m. jacobian_at b.equations b.lines f.places own f.columns m x) free

  rows_are : rows ≡ all
  rows_are = ap count made

  pub lays : Lays b f nf x p p' rows
  lays = record {
    counted = rows_are;
    few = rw rows_are rows-most;
    long = ap length (sym is-gradients) ∙ jacobian-long b.equations b.lines f.places f.columns own nf x ∙ ap (λ m. m * nf) (sym rows_are);
    laid = ap laid_in made ∙ rw (is-gradients, rows_are);
  }

-- ---- the rank

-- what was filled at the front of a list
filled : (k : ℕ) (a z : List Float) → k ≤ length a → z ≡ replicate (length (take k a)) zero⁺ → z ++ drop k a ≡ zeroed k a
filled k a z h e = rw (e, length-take-le k a h)

-- what lies past the vectors is as it was
past : (v a a' : List Float) (m k : ℕ) → a' ≡ v ++ drop m a → length a' ≡ length a → m ≤ k → k ≤ length a → drop k a' ≡ drop k a
past v a a' m k e l h t =
    let long : length v ≡ m = omega (arith, sym l, ap length e, length-append v (drop m a), length-drop m a) in
    let c : length v + (k - m) ≡ k = omega arith in
    let d : m + (k - m) ≡ k = omega arith in
    ap (drop k) e ∙ (rw c at (drop-append-add v (drop m a) (k - m))) ∙ drop-drop (k - m) m a ∙ ap (λ i. drop i a) d

module _ (rows n : ℕ) (p q r : List Float) (few : rows ≤ 64) (narrow : n ≤ 80) (room_p : 6400 ≤ length p) (room_q : 6400 ≤ length q) (room_r : 6400 ≤ length r) where
  abbrev m : List Float
  m = take (rows * n) p

  size_in : rows * n ≤ length p
  size_in = fits_in rows n (length p) (omega arith) narrow room_p

  square-in : n * n ≤ length r
  square-in = fits_in n n (length r) narrow narrow room_r

  checked-is : {A : Type 0} (three nine done : A) → checked rows n m q r three nine done ≡ done
  unfolding checked
  checked-is three nine done =
      let long : rows * n ≤ length m = rw (length-take-le (rows * n) p size_in) (le_refl (rows * n)) in
      rw (le-ltb 64 rows few, le-ltb 80 n narrow, le-ltb (length m) (rows * n) long, le-ltb (length q) (rows * n) (fits_in rows n (length q) (omega arith) narrow room_q), le-ltb (length r) (n * n) square-in)

  abbrev found : ℕ
  found = rank_of (decomposed_of rows n m)

  pub ranks : (s : Result ℕ Refusal) (k : ℕ) (q₁ r₁ zp zr : List Float) → k ≡ result_unwrap_or s 0 → Spans rows n m q r q₁ r₁ s → length r₁ ≡ length r → zp ≡ replicate (length (take (rows * n) p)) zero⁺
      → zr ≡ replicate (length (take (n * n) r₁)) zero⁺ → Ranks rows n p q r (zp ++ drop (rows * n) p) q₁ (zr ++ drop (n * n) r₁) k
  ranks s k q₁ r₁ zp zr e t l ep er = record {
    answer = e ∙ ap (λ u. result_unwrap_or u 0) (t.answer ∙ checked-is (Err TooMany) (Err TooShort) (Ok found));
    matrix = filled (rows * n) p zp size_in ep;
    work = t.work ∙ checked-is q q (zeroed (rows * n) q);
    basis =
        filled (n * n) r₁ zr (rw l square-in) er
        ∙ ap (λ d. replicate (n * n) zero⁺ ++ d) (past (vectors_of rows n m) r r₁ ((n - found) * n) (n * n) (t.output ∙ checked-is r r _) l (mul-le-mul_right n (omega arith)) square-in);
  }

-- ---- the whole

module _ (b : Build) (f : Frame) (x p q r : List Float) where
  pub refused : short p q r ≡ true → Frees b f x p q r p q r (Err Uncounted.TooShort)
  refused h = record { answer = rw h; meaning = rw h; jacobian = rw h; work = rw h; basis = rw h }

  pub refused-rows : (n : ℕ) → short p q r ≡ false → n ≡ row_count b.equations (numbers_of f.equations.0) → 64 < n → Frees b f x p q r p q r (Err Uncounted.TooManyRows)
  refused-rows n h e k =
      let o : frame_over_rows b f ≡ true = rw (← e) (lt-ltb 64 n k) in
      record { answer = rw (h, o); meaning = rw (h, o); jacobian = rw (h, o); work = rw (h, o); basis = rw (h, o) }

  module _ (nf rows : ℕ) (p₁ p₂ q₂ r₂ : List Float) (s : ℕ) (free : nf ≡ length (indices_of f.free)) (t : Lays b f nf x p p₁ rows)
      (u : Ranks rows nf p₁ q r p₂ q₂ r₂ s) where
    at_head : take (rows * nf) p₁ ≡ gradients_of b f x
    at_head = ap (take (rows * nf)) t.laid ∙ take_at (gradients_of b f x) (drop (rows * nf) p) (rows * nf) t.long

    past_head : drop (rows * nf) p₁ ≡ drop (rows * nf) p
    past_head = ap (drop (rows * nf)) t.laid ∙ drop_at (gradients_of b f x) (drop (rows * nf) p) (rows * nf) t.long

    freedom-is : nf - rank_of (decomposed_of rows nf (take (rows * nf) p₁)) ≡ freedom_of b f x
    unfolding freedom_of
    freedom-is = rw (at_head, t.counted, free)

    pub frees : (d : ℕ) → d ≡ nf - s → short p q r ≡ false → row_count b.equations (numbers_of f.equations.0) ≤ 64 → Frees b f x p q r p₂ q₂ r₂ (Ok d)
    frees d e h k =
        let o : frame_over_rows b f ≡ false = le-ltb 64 _ k in
        let is : d ≡ freedom_of b f x = e ∙ ap (λ n. nf - n) u.answer ∙ freedom-is in
        record {
          answer = rw (h, o) (ap Ok is);
          meaning = rw (h, o) (ap values is);
          jacobian = rw (h, o) (u.matrix ∙ ap (λ l. replicate (rows * nf) zero⁺ ++ l) past_head ∙ rw (t.counted, free));
          work = rw (h, o) (u.work ∙ rw (t.counted, free));
          basis = rw (h, o) (u.basis ∙ rw free);
        }
