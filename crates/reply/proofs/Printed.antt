-- What is printed after each number: a loop over the places of an array, from the front, is a list gone through. Assumes nothing.
use mathlib.Core.Bool.{Bool, true, false, cond, Bool-set}
use mathlib.Core.List.Memᴰ
use mathlib.Core.List.{List, [], ◌∷◌, ◌++◌, append-nil, append_assoc, flat_map, Pairwise, Memᴰ}
use mathlib.Core.Logic.{◌≢◌, ◌⊎◌, inl, inr, ∥∥₁_elim}
use mathlib.Core.Path.{◌≡◌, refl, sym, ap, ap₂, ◌∙◌}
use Prim.Native.Nat.{ℕ, zero, suc, ◌+◌, ◌-◌, ◌*◌, ◌≤◌, ◌<◌, min}
use native.Mathlib.Bridge.{le_prop}
use native.Mathlib.Nat.{add-zero, not-suc-le-zero, le_of_suc-le-suc}
use native.Mathlib.Omega.{arith}
use lib.Ieee.{Float, nan}
use lib.ListN.{length, get_or, get_or-append}
use Rattle.answer.specs.Endings.{blank_group}
use Rattle.answer.specs.declared.Answer.{Answer}
use Rattle.answer.specs.declared.GroupFit.{GroupFit}
use Rattle.loops.proofs.Parts.{get-past}
use Rattle.sketch.specs.Check.{number_of}
use Rattle.sketch.specs.declared.Ending.{Ending}
use Rattle.sketch.specs.declared.Ending.TheVariants.{Fitted, TooLong, BadForm, TooMany, OutOfBounds, NoSuchItem, TooManyRows, NotConverged, TooShort}
use Rattle.spelling.specs.Letters.{ascii}
use Rattle.spelling.specs.Printed.{decimal}
use Rattle.reply.specs.Figures.{comma, newline, whole, float}
use Rattle.reply.specs.Lines.{status_line, total_lines, group_line, failed_line, suspect_line, point_line, measure_line}
use Rattle.reply.specs.Reply.{rising, group_lines, output_lines, fitted_lines, mark_count, failed_lines, lines_after, reply_of}
use Rattle.reply.specs.Theorems.{g_line, x_line, m_line, c_line, two_of, PrintsFit, PrintsFailure, PrintsNumber, SuspectsAre, suspects_from}

-- ---- from the front

rising-front : (f : ℕ → List ℕ) (n : ℕ) → rising f (suc n) ≡ f 0 ++ rising (λ i. f (suc i)) n
unfolding rising
rising-front f zero = sym (append-nil (f 0))
rising-front f (suc n) = ap (λ l. l ++ f (suc n)) (rising-front f n) ∙ append_assoc (f 0) (rising (λ i. f (suc i)) n) (f (suc n))

-- a line for each of a list, where place i's line is that of the i-th
rising-each : {A : Type 0} (line : A → List ℕ) (d : A) (l : List A) (f : ℕ → List ℕ) → ((i : ℕ) → i < length l → f i ≡ line (get_or l i d))
    → rising f (length l) ≡ flat_map line l
unfolding rising flat_map
rising-each line d [] f e = refl
rising-each line d (a ∷ l) f e =
    rising-front f (length l)
    ∙ ap₂ ◌++◌ (e 0 (omega arith)) (rising-each line d l (λ i. f (suc i)) (λ i h. e (suc i) (omega arith)))

-- ---- the marked

module _ (line : ℕ → List ℕ) where
  first-marked : (b : Bool) (k : ℕ) (l : List ℕ) → cond b (line k) [] ++ flat_map line l ≡ flat_map line (cond b (k ∷ l) l)
  unfolding flat_map
  first-marked true k l = refl
  first-marked false k l = refl

  rising-marked : (marks : List Bool) (k : ℕ) (f : ℕ → List ℕ) → ((i : ℕ) → i < length marks → f i ≡ cond (get_or marks i false) (line (k + i)) [])
      → rising f (length marks) ≡ flat_map line (suspects_from k marks)
  unfolding rising flat_map suspects_from
  rising-marked [] k f e = refl
  rising-marked (b ∷ marks) k f e =
      let here : k + 0 ≡ k = omega arith in
      rising-front f (length marks)
      ∙ ap₂ ◌++◌
      (rw here at (e 0 (omega arith)))
      (rising-marked marks (k + 1) (λ i. f (suc i)) (λ i h. let next : k + suc i ≡ k + 1 + i = omega arith in rw next at (e (suc i) (omega arith))))
      ∙ first-marked b k (suspects_from (k + 1) marks)

marked-in : (marks : List Bool) (k j : ℕ) → Memᴰ j (suspects_from k marks) → (k ≤ j) × (get_or marks (j - k) false ≡ true)
unfolding suspects_from
marked-in [] k j m = absurd (Memᴰ.not-nil m)
marked-in (true ∷ marks) k j m = go (marked-in marks (k + 1) j) (Memᴰ.cases_cons m)
  where
    go : (Memᴰ j (suspects_from (k + 1) marks) → (k + 1 ≤ j) × (get_or marks (j - (k + 1)) false ≡ true)) → (j ≡ k) ⊎ Memᴰ j (suspects_from (k + 1) marks)
        → (k ≤ j) × (get_or (true ∷ marks) (j - k) false ≡ true)
    go later (inl e) = let z : j - k ≡ 0 = omega arith in (omega arith, rw z refl)
    go later (inr n) = let t = later n in let z : j - k ≡ suc (j - (k + 1)) = omega (arith, t.0) in (omega (arith, t.0), rw z t.1)
marked-in (false ∷ marks) k j m =
    let t = marked-in marks (k + 1) j m in
    let z : j - k ≡ suc (j - (k + 1)) = omega (arith, t.0) in
    (omega (arith, t.0), rw z t.1)

in-marked : (marks : List Bool) (k i : ℕ) → get_or marks i false ≡ true → Memᴰ (k + i) (suspects_from k marks)
unfolding suspects_from
in-marked [] k i e = let no : ◌≡◌ {A = Bool} false true = e in let z : ◌≡◌ {A = ℕ} 0 1 = cc in absurd (omega arith)
in-marked (true ∷ marks) k zero e = Memᴰ.head (add-zero k)
in-marked (true ∷ marks) k (suc i) e = let next : k + 1 + i ≡ k + suc i = omega arith in Memᴰ.tail (rw next at (in-marked marks (k + 1) i e))
in-marked (false ∷ marks) k zero e = let z : ◌≡◌ {A = ℕ} 0 1 = cc in absurd (omega arith)
in-marked (false ∷ marks) k (suc i) e = let next : k + suc i ≡ k + 1 + i = omega arith in rw next (in-marked marks (k + 1) i e)

marked-rise : (marks : List Bool) (k : ℕ) → Pairwise ◌<◌ (suspects_from k marks)
unfolding suspects_from
marked-rise [] k = Pairwise.nil
marked-rise (true ∷ marks) k = Pairwise.cons {a = k} (λ j m. ∥∥₁_elim m le_prop (λ d. omega (arith, (marked-in marks (k + 1) j d).0))) (marked-rise marks (k + 1))
marked-rise (false ∷ marks) k = marked-rise marks (k + 1)

pub suspects-are : (marks : List Bool) → SuspectsAre marks
suspects-are marks = record {
  rise = marked-rise marks 0;
  exactly = λ k. (
    λ m. ∥∥₁_elim m (Bool-set _ _) (λ d. let z : k - 0 ≡ k = omega arith in rw z at (marked-in marks 0 k d).1),
    λ e. let z : 0 + k ≡ k = omega arith in ∣ rw z at (in-marked marks 0 k e) ∣₁,
  );
}

-- ---- the output: two numbers for each point, then the measures

module _ (t : List Float) where
  x-at : (ps : List (Float × Float)) (i : ℕ) → i < length ps → get_or (flat_map two_of ps ++ t) (2 * i) nan ≡ (get_or ps i (nan, nan)).0
  unfolding flat_map
  x-at [] i h = absurd (not-suc-le-zero h)
  x-at (p ∷ ps) zero h = refl
  x-at (p ∷ ps) (suc i) h = let e : 2 * suc i ≡ suc (suc (2 * i)) = omega arith in rw e (x-at ps i (le_of_suc-le-suc h))

  y-at : (ps : List (Float × Float)) (i : ℕ) → i < length ps → get_or (flat_map two_of ps ++ t) (2 * i + 1) nan ≡ (get_or ps i (nan, nan)).1
  unfolding flat_map
  y-at [] i h = absurd (not-suc-le-zero h)
  y-at (p ∷ ps) zero h = refl
  y-at (p ∷ ps) (suc i) h = let e : 2 * suc i + 1 ≡ suc (suc (2 * i + 1)) = omega arith in rw e (y-at ps i (le_of_suc-le-suc h))

two-long : (ps : List (Float × Float)) → length (flat_map two_of ps) ≡ 2 * length ps
unfolding flat_map
two-long [] = refl
two-long (p ∷ ps) = omega (arith, two-long ps)

module _ (ps : List (Float × Float)) (ms past : List Float) where
  point-at : (i : ℕ) → i < length ps → point_line (flat_map two_of ps ++ (ms ++ past)) i ≡ x_line (get_or ps i (nan, nan))
  unfolding point_line
  point-at i h = ap₂ (λ x y. ascii "x=" ++ float x comma ++ float y newline) (x-at (ms ++ past) ps i h) (y-at (ms ++ past) ps i h)

  measure-at : (j : ℕ) → j < length ms → measure_line (flat_map two_of ps ++ (ms ++ past)) (2 * length ps + j) ≡ m_line (get_or ms j nan)
  unfolding measure_line
  measure-at j h = ap m_line (get-past (flat_map two_of ps) (ms ++ past) (2 * length ps) j nan (two-long ps) ∙ get_or-append ms past nan j h)

  output-each : output_lines (flat_map two_of ps ++ (ms ++ past)) (length ps) (length ms) ≡ flat_map x_line ps ++ flat_map m_line ms
  unfolding output_lines
  output-each = ap₂ ◌++◌ (rising-each x_line (nan, nan) ps _ point-at) (rising-each m_line nan ms _ measure-at)

group_at : (gs unused : List GroupFit) (i : ℕ) → i < length gs → group_line (get_or (gs ++ unused) i blank_group) ≡ g_line (get_or gs i blank_group)
unfolding group_line
group_at gs unused i h = ap g_line (get_or-append gs unused blank_group i h)

suspect-at : (marks : List Bool) (k : ℕ) → suspect_line marks k ≡ cond (get_or marks k false) (c_line (0 + k)) []
unfolding suspect_line
suspect-at marks k = let z : 0 + k ≡ k = omega arith in rw z

-- ---- the replies

fitted : (e : Ending) → number_of e ≡ 0 → e ≡ Fitted
fitted Fitted h = refl
fitted TooLong h = absurd (omega arith)
fitted BadForm h = absurd (omega arith)
fitted TooMany h = absurd (omega arith)
fitted OutOfBounds h = absurd (omega arith)
fitted NoSuchItem h = absurd (omega arith)
fitted TooManyRows h = absurd (omega arith)
fitted NotConverged h = absurd (omega arith)
fitted TooShort h = absurd (omega arith)

failed : (e : Ending) → number_of e ≡ 7 → e ≡ NotConverged
failed Fitted h = absurd (omega arith)
failed TooLong h = absurd (omega arith)
failed BadForm h = absurd (omega arith)
failed TooMany h = absurd (omega arith)
failed OutOfBounds h = absurd (omega arith)
failed NoSuchItem h = absurd (omega arith)
failed TooManyRows h = absurd (omega arith)
failed NotConverged h = refl
failed TooShort h = absurd (omega arith)

no_lines : (e : Ending) (a : Answer) (out : List Float) (p m : ℕ) → number_of e ≢ 0 → number_of e ≢ 7 → lines_after e a out p m ≡ []
no_lines Fitted a out p m z s = absurd (z refl)
no_lines TooLong a out p m z s = refl
no_lines BadForm a out p m z s = refl
no_lines TooMany a out p m z s = refl
no_lines OutOfBounds a out p m z s = refl
no_lines NoSuchItem a out p m z s = refl
no_lines TooManyRows a out p m z s = refl
no_lines NotConverged a out p m z s = absurd (s refl)
no_lines TooShort a out p m z s = refl

pub prints-number : PrintsNumber
unfolding reply_of status_line
prints-number a out points measures z s = rw (no_lines a.ending a out (min points 40) (min measures 20) z s) (append-nil _)

-- 0

after-fitted : (e : Ending) (a : Answer) (out : List Float) (p m : ℕ) → e ≡ Fitted → status_line e ++ lines_after e a out p m ≡ ascii "status=0\n" ++ fitted_lines a out p m
unfolding status_line whole decimal
after-fitted e a out p m h = rw h

group-each : (a : Answer) (gs unused : List GroupFit) → length gs ≤ 40 → a.groups ≡ gs ++ unused → a.group_count ≡ length gs
    → group_lines a ≡ flat_map g_line gs
unfolding group_lines
group-each a gs unused h e n =
    let m : min (length gs) 40 ≡ length gs = omega arith in
    rw (e, n, m) (rising-each g_line blank_group gs _ (group_at gs unused))

totals : Answer → ℕ → List ℕ
totals a n = ascii "groups=" ++ whole n newline ++ ascii "freedom=" ++ whole a.freedom newline ++ ascii "worst=" ++ float a.worst newline

totals-are : (a : Answer) (n : ℕ) → a.group_count ≡ n → total_lines a ≡ totals a n
unfolding total_lines totals
totals-are a n e = rw e

fitted-each : (a : Answer) (gs unused : List GroupFit) (ps : List (Float × Float)) (ms past : List Float) (p m : ℕ)
    → length gs ≤ 40 → a.groups ≡ gs ++ unused → a.group_count ≡ length gs → p ≡ length ps → m ≡ length ms
    → fitted_lines a (flat_map two_of ps ++ (ms ++ past)) p m ≡ totals a (length gs) ++ flat_map g_line gs ++ (flat_map x_line ps ++ flat_map m_line ms)
unfolding fitted_lines
fitted-each a gs unused ps ms past p m h e n i j = rw (i, j) (ap₂ ◌++◌ (ap₂ ◌++◌ (totals-are a (length gs) n) (group-each a gs unused h e n)) (output-each ps ms past))

pub prints-fit : PrintsFit
unfolding reply_of totals
prints-fit a gs unused ps ms past z e n few fewer fewest =
    let p : min (length ps) 40 ≡ length ps = omega arith in
    let m : min (length ms) 20 ≡ length ms = omega arith in
    after-fitted a.ending a _ _ _ (fitted a.ending z)
    ∙ ap (λ l. ascii "status=0\n" ++ l) (fitted-each a gs unused ps ms past _ _ few e n p m)
    ∙ simp append_assoc

-- 7

after-failed : (e : Ending) (a : Answer) (out : List Float) (p m : ℕ) → e ≡ NotConverged → status_line e ++ lines_after e a out p m ≡ ascii "status=7\n" ++ failed_lines a
unfolding status_line whole decimal
after-failed e a out p m h = rw h

suspects-each : (marks : List Bool) → length marks ≡ 40 → rising (suspect_line marks) mark_count ≡ flat_map c_line (suspects_from 0 marks)
suspects-each marks e = rw (← e) (rising-marked c_line marks 0 (suspect_line marks) (λ k h. suspect-at marks k))

failed-each : (a : Answer) (g : GroupFit) (unused : List GroupFit) → a.groups ≡ g ∷ unused → length a.suspects ≡ 40
    → failed_lines a ≡ failed_line g ++ flat_map c_line (suspects_from 0 a.suspects)
unfolding failed_lines
failed-each a g unused e n = ap₂ ◌++◌ (ap (λ l. failed_line (get_or l 0 blank_group)) e) (suspects-each a.suspects n)

pub prints-failure : PrintsFailure
unfolding reply_of failed_line
prints-failure a g unused out points measures z e n =
    after-failed a.ending a _ _ _ (failed a.ending z)
    ∙ ap (λ l. ascii "status=7\n" ++ l) (failed-each a g unused e n)
    ∙ simp append_assoc
