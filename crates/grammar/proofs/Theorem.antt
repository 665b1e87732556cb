-- The reader takes exactly the texts of the form, each with one reading, and gives 1, 2 and 3 exactly when document 01's order says.
-- Assumes nothing.
use Prim.Native.Nat.{ℕ, ◌-◌, ◌≤◌, ◌<◌}
use mathlib.Core.Bool.{Bool, true, false}
use mathlib.Core.List.{List, [], ◌∷◌, ◌++◌, append-nil}
use mathlib.Core.Logic.{◌↔◌}
use mathlib.Core.Path.{◌≡◌, refl, sym, ap, subst, ◌∙◌}
use native.Mathlib.Omega.{arith}
use borrow.Author.Tests.{lt-ltb, le-ltb, ltb-true, ltb-false, eq-eqb, eqb-true}
use lib.Dec.{eqb}
use lib.ListN.{length, length-drop}
use Rattle.std.proofs.Common.{Result, Ok, Err, if◌then◌else◌}
use Rattle.sketch.specs.declared.Build.{Build}
use Rattle.sketch.specs.declared.Ending.{Ending}
use Rattle.spelling.proofs.Steps.{Here, begin, never, ok-is, not-ok}
use Rattle.spelling.specs.Places.{Read}
use Rattle.text.proofs.Given.{reads-exactly}
use Rattle.text.proofs.Rest.{within}
use Rattle.text.specs.Reader.{counts_at, over, rest_at, ended, build_at, judged, too_long, bad_counts, over_counts, read_of}
use Rattle.text.specs.declared.Counts as C
use Rattle.grammar.specs.Form.{Bounded, Writes, Exceeds, ReadsForm, OneReading}
use Rattle.grammar.specs.Job.{Counts, CountsFit, counts_of, Job, Writable}
use Rattle.grammar.specs.Meaning.{build_of}
use Rattle.grammar.specs.Printed.{counts_text, rest_text}
use Rattle.grammar.proofs.JobForm.{given_counts, counts-reads, RestFits, rest-reads}

-- the counts are within their bounds exactly when the reader finds them so
bounded-within : (n : Counts) → Bounded n → over (given_counts n) ≡ false
bounded-within n h = rw (le-ltb 40 n.points h.0, le-ltb 40 n.lines h.1, le-ltb 40 n.equations h.2, le-ltb 20 n.measures h.3)

exceeding : (n : Counts) → (Bounded n → ⊥) → over (given_counts n) ≡ true
exceeding n h = go (over (given_counts n)) refl
  where
    go : (b : Bool) → over (given_counts n) ≡ b → b ≡ true
    go true e = refl
    go false e = absurd (h (within (given_counts n) e))

-- a place with nothing left is the end
ends_at : (s : List ℕ) (at : ℕ) → Here s at [] → at ≡ length s
ends_at s at h = let e : length s - at ≡ 0 = sym (length-drop at s) ∙ ap length h.rest in omega (arith, h.within)

nothing_left : (s : List ℕ) (at : ℕ) (t : List ℕ) → Here s at t → at ≡ length s → t ≡ []
nothing_left s at [] h e = refl
nothing_left s at (x ∷ t) h e = let l : length s - at ≡ length (x ∷ t) = sym (length-drop at s) ∙ ap length h.rest in absurd (omega arith)

rest-fits : (j : Job) → Writable j → RestFits (counts_of j) j
rest-fits j h = record {
  centre = h.centre;
  size = h.size;
  points = (refl, h.points);
  lines = (refl, h.lines);
  equations = (refl, h.equations);
  measures = (refl, h.measures);
}

counts-of : (n : Counts) (j : Job) → RestFits n j → counts_of j ≡ n
counts-of n j h = λ t. record { points = h.points.0 t; lines = h.lines.0 t; equations = h.equations.0 t; measures = h.measures.0 t }

fits-of : (n : Counts) (j : Job) → CountsFit n → RestFits n j → Writable j
fits-of n j p h = record {
  centre = h.centre;
  size = h.size;
  points = h.points.1;
  lines = h.lines.1;
  equations = h.equations.1;
  measures = h.measures.1;
  counts = subst CountsFit (sym (counts-of n j h)) p;
}

-- what the reader's tests found
counted : (o : Read C.Counts) → over_counts o ≡ true → (r : C.Counts × ℕ) × (o ≡ Ok r) × (over r.0 ≡ true)
counted (Err e) h = absurd (never _ refl h)
counted (Ok r) h = (r, refl, h)

module _ (s : List ℕ) where
  at-end : (o : Read Build) (b : Build) → ended s o ≡ Ok b → o ≡ Ok (b, length s)
  at-end (Err e) b h = absurd (not-ok h)
  at-end (Ok r) b h = go (eqb r.1 (length s)) refl h
    where
      go : (q : Bool) → eqb r.1 (length s) ≡ q → (if q then Ok r.0 else Err r.1) ≡ Ok b → ◌≡◌ {A = Read Build} (Ok r) (Ok (b, length s))
      go true e k = λ t. Ok (ok-is k t, eqb-true r.1 (length s) e t)
      go false e k = absurd (not-ok k)

  built : (o : Read C.Counts) (b : Build) → build_at s o ≡ Ok b → (r : C.Counts × ℕ) × (o ≡ Ok r) × (rest_at r.0 s r.1 ≡ Ok (b, length s))
  built (Err e) b h = absurd (not-ok h)
  built (Ok r) b h = (r, refl, at-end (rest_at r.0 s r.1) b h)

  -- a text that begins with count lines is read so far with these counts, and the other way about
  counts-forward : (n : Counts) (t : List ℕ) → CountsFit n → s ≡ counts_text n ++ t → (i : ℕ) × (counts_at s 0 ≡ Ok (given_counts n, i)) × Here s i t
  counts-forward n t p e = counts-reads.forward s 0 n t p refl (subst (λ (l : List ℕ). Here s 0 l) e (begin s))

  counts-backward : (r : C.Counts × ℕ) → counts_at s 0 ≡ Ok r → (n : Counts) × (t : List ℕ) × CountsFit n × (given_counts n ≡ r.0) × (s ≡ counts_text n ++ t) × Here s r.1 t
  counts-backward r e = counts-reads.backward s 0 s r.0 r.1 (begin s) e

  -- 3
  exceeds : over_counts (counts_at s 0) ≡ true → Exceeds s
  exceeds h =
      let c = counted (counts_at s 0) h in
      let f = counts-backward c.0 c.1 in
      record { counts = f.0; fits = f.2; over = λ b. never _ (sym (ap over f.3) ∙ bounded-within f.0 b) c.2; after = f.1; text = f.4 }

  exceeded : Exceeds s → (bad_counts (counts_at s 0) ≡ false) × (over_counts (counts_at s 0) ≡ true)
  exceeded x =
      let f = counts-forward x.counts x.after x.fits x.text in
      (ap bad_counts f.1, ap over_counts f.1 ∙ exceeding x.counts x.over)

  -- what was read is a job that this is the text of
  writes : (b : Build) → over_counts (counts_at s 0) ≡ false → build_at s (counts_at s 0) ≡ Ok b → (j : Job) × Writes s j × (b ≡ build_of j)
  writes b o h =
      let c = built (counts_at s 0) b h in
      let f = counts-backward c.0 c.1 in
      let e : rest_at (given_counts f.0) s c.0.1 ≡ Ok (b, length s) = subst (λ (n : C.Counts). rest_at n s c.0.1 ≡ Ok (b, length s)) (sym f.3) c.2 in
      let g = (rest-reads f.0).backward s c.0.1 f.1 b (length s) f.5 e in
      let j = g.0 in
      let m : counts_of j ≡ f.0 = counts-of f.0 j g.2 in
      let u : f.1 ≡ rest_text j = g.4 ∙ ap (λ l. rest_text j ++ l) (nothing_left s (length s) g.1 g.5 refl) ∙ append-nil (rest_text j) in
      let w : over (given_counts f.0) ≡ false = ap over f.3 ∙ sym (ap over_counts c.1) ∙ o in (
        j,
        record {
          fits = fits-of f.0 j f.2 g.2;
          bounded = subst Bounded (sym m) (within (given_counts f.0) w);
          text = f.4 ∙ ap (λ l. counts_text f.0 ++ l) u ∙ ap (λ n. counts_text n ++ rest_text j) (sym m);
        },
        sym g.3,
      )

  -- a text of a job is read, and as that job
  written : (j : Job) → Writes s j → (bad_counts (counts_at s 0) ≡ false) × (over_counts (counts_at s 0) ≡ false) × (build_at s (counts_at s 0) ≡ Ok (build_of j))
  written j w =
      let n = counts_of j in
      let f = counts-forward n (rest_text j) w.fits.counts w.text in
      let h : Here s f.0 (rest_text j ++ []) = subst (λ (l : List ℕ). Here s f.0 l) (sym (append-nil (rest_text j))) f.2 in
      let g = (rest-reads n).forward s f.0 j [] (rest-fits j w.fits) refl h in
      (ap bad_counts f.1, ap over_counts f.1 ∙ bounded-within n w.bounded, rw (f.1, g.1, eq-eqb g.0 (length s) (ends_at s g.0 g.2)))

  long : too_long s ≡ false → length s ≤ 16384
  long h = ltb-false 16384 (length s) h

  not-long : length s ≤ 16384 → too_long s ≡ false
  not-long h = le-ltb 16384 (length s) h

  one : read_of s ≡ Err Ending.TooLong ↔ 16384 < length s
  one = (λ h. ltb-true 16384 (length s) ((reads-exactly s).one.0 h), λ h. (reads-exactly s).one.1 (lt-ltb 16384 (length s) h))

  three : read_of s ≡ Err Ending.TooMany ↔ (length s ≤ 16384) × Exceeds s
  three = (
    λ h. let e = (reads-exactly s).three.0 h in (long e.0, exceeds e.2),
    λ h. let e = exceeded h.1 in (reads-exactly s).three.1 (not-long h.0, e.0, e.1),
  )

  whole : (b : Build) → read_of s ≡ Ok b ↔ (length s ≤ 16384) × ((j : Job) × Writes s j × (b ≡ build_of j))
  whole b = (
    λ h. let e = ((reads-exactly s).whole b).0 h in (long e.0, writes b e.2 e.3),
    λ h. let w = written h.1.0 h.1.1 in ((reads-exactly s).whole b).1 (not-long h.0, w.0, w.1, w.2 ∙ ap Ok (sym h.1.2)),
  )

-- one of the four
one_of : (t c o : Bool) (b : Result Build ℕ) (P : Result Build Ending → Type 0) → P (Err Ending.TooLong) → P (Err Ending.BadForm) → P (Err Ending.TooMany) → ((r : Build) → P (Ok r)) → P (judged t c o b)
one_of true c o b P p q v w = p
one_of false true o b P p q v w = q
one_of false false true b P p q v w = v
one_of false false false (Err e) P p q v w = q
one_of false false false (Ok r) P p q v w = w r

form-many : ◌≡◌ {A = Result Build Ending} (Err Ending.BadForm) (Err Ending.TooMany) → ⊥
form-many h = cc

form-read : {b : Build} → ◌≡◌ {A = Result Build Ending} (Err Ending.BadForm) (Ok b) → ⊥
form-read h = cc

module _ (s : List ℕ) where
  pub cases : (P : Result Build Ending → Type 0) → P (Err Ending.TooLong) → P (Err Ending.BadForm) → P (Err Ending.TooMany) → ((b : Build) → P (Ok b)) → P (read_of s)
  unfolding read_of
  cases P p q v w = let n = counts_at s 0 in one_of (too_long s) (bad_counts n) (over_counts n) (build_at s n) P p q v w

  -- neither a text over the bounds nor a job's
  two : read_of s ≡ Err Ending.BadForm ↔ (length s ≤ 16384) × (Exceeds s → ⊥) × ((j : Job) → Writes s j → ⊥)
  two = (λ h. let l = long s ((reads-exactly s).two.0 h).0 in (l, λ x. form-many (sym h ∙ (three s).1 (l, x)), λ j w. form-read (sym h ∙ (whole s (build_of j)).1 (l, (j, w, refl)))), back)
    where
      back : (length s ≤ 16384) × (Exceeds s → ⊥) × ((j : Job) → Writes s j → ⊥) → read_of s ≡ Err Ending.BadForm
      back h =
          cases (λ r. read_of s ≡ r → read_of s ≡ Err Ending.BadForm) (λ e. absurd (omega (arith, (one s).0 e, h.0))) (λ e. e) (λ e. absurd (h.1 ((three s).0 e).1))
          (λ b e. let w = (whole s b).0 e in absurd (h.2 w.1.0 w.1.1)) refl

  pub reads-form : ReadsForm s (read_of s)
  reads-form = record { one = one s; two = two; three = three s; whole = whole s }

  -- no second answer
  pub only-reading : (r : Result Build Ending) → ReadsForm s r → r ≡ read_of s
  only-reading r f =
      cases (λ q. read_of s ≡ q → r ≡ q) (λ e. f.one.1 ((one s).0 e)) (λ e. f.two.1 (two.0 e)) (λ e. f.three.1 ((three s).0 e)) (λ b e. (f.whole b).1 ((whole s b).0 e)) refl

-- each text is one job's
pub one-reading : OneReading
one-reading j k p q e =
    let c = counts-reads.single (counts_of j) (counts_of k) (rest_text j) (rest_text k) p.counts q.counts refl refl e in
    let f : RestFits (counts_of j) k = subst (λ (n : Counts). RestFits n k) (sym c.0) (rest-fits k q) in
    ((rest-reads (counts_of j)).single j k [] [] (rest-fits j p) f refl refl (append-nil (rest_text j) ∙ c.1 ∙ sym (append-nil (rest_text k)))).0
