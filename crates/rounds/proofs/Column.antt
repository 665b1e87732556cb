-- What `rows` lays in a slice that is long enough is the problem's residuals, and its Jacobian. Assumes nothing.
use Prim.Native.Nat.{ℕ, zero, suc, ◌+◌, ◌*◌, ◌≤◌, ◌<◌}
use mathlib.Core.Bool.{Bool, true, false, cond}
use mathlib.Core.List.{List, [], ◌∷◌, ◌++◌, map, flat_map, append-nil, append_assoc}
use mathlib.Core.Path.{◌≡◌, refl, sym, ap, ◌∙◌}
use native.Mathlib.Nat.{add-zero, zero-add, add_assoc, add_comm, sub-zero, zero-mul, one-mul, le_refl, suc-mul, add-mul}
use native.Mathlib.Omega.{arith}
use borrow.Author.Tests.{le-ltb, ltb-true}
use lib.Dec.{ltb}
use lib.Ieee.{Float, nan}
use lib.ListN.{length, get_or, set, drop, replicate, length-append, length-drop, length-set, length-map, length-replicate, get_or-append, drop_of_length-le}
use lib.Seq.{set-append_left, set_at, drop-drop}
use Rattle.floats.specs.Ops.{◌⊕◌, zero⁺}
use Rattle.loops.proofs.Parts.{get-past, set_past}
use Rattle.loops.specs.Turns.{fold, up_to, turns}
use Rattle.loops.proofs.Flat.{fold-parts}
use Rattle.rows.specs.Column.{Laid, laid, next_value, rows_at, values_next, column_of, equation_at}
use Rattle.slopes.specs.Dense.{next_row, free_of, add_at, add_entry, clear_at, cleared_of, row_into, rows_next, jacobian_of}
use Rattle.rows.specs.Entries.{Row}
use Rattle.rows.specs.Kinds.{rows_of_equation}
use Rattle.rows.specs.Located.{local_of, at_of}
use Rattle.rows.proofs.Bounded.{rows-of}
use Rattle.rows.specs.declared.Entry.{Entry}
use Rattle.sketch.specs.Rows.{rows_of}
use Rattle.sketch.proofs.AtMostTwo.{two-at-most}
use Rattle.sketch.specs.declared.Active.{Active}
use Rattle.sketch.specs.declared.FreeNo.{FreeNo}
use Rattle.sketch.specs.declared.Line.{Line}
use Rattle.rounds.specs.Problem.{more_rows, row_count, dense_row, rows_for, values_at, jacobian_at}

-- ---- how many rows there are

module _ (es : List Active) (ls : List Line) (places : List ℕ) (x : List Float) where
  counted : (ks : List ℕ) (n : ℕ) → n + length (flat_map (rows_at es ls places x) ks) ≡ fold (more_rows es) n ks
  unfolding flat_map more_rows rows_at
  counted [] n = add-zero n
  counted (k ∷ ks) n =
      let rs = rows_of_equation ls (at_of places x) (equation_at es k) in
      let rest = flat_map (rows_at es ls places x) ks in
      ap (λ m. n + m) (length-append rs rest ∙ ap (λ m. m + length rest) (rows-of ls (at_of places x) (equation_at es k)))
      ∙ sym (add_assoc n (rows_of (equation_at es k)) (length rest))
      ∙ counted ks (n + rows_of (equation_at es k))

rows-most : (es : List Active) (ks : List ℕ) (n : ℕ) → fold (more_rows es) n ks ≤ n + 2 * length ks
unfolding more_rows
rows-most es [] n = omega arith
rows-most es (k ∷ ks) n =
    let h = rows-most es ks (n + rows_of (equation_at es k)) in
    let two = two-at-most (equation_at es k) in
    let c : 2 * suc (length ks) ≡ 2 + 2 * length ks = omega arith in
    rw c (omega (arith, h, two))

pub rows_few : (es : List Active) (chosen : List ℕ) → length chosen ≤ 40 → row_count es chosen ≤ 80
unfolding row_count
rows_few es chosen h = omega (arith, rows-most es chosen 0)

-- ---- the residuals

values-laid : (rows : List Row) (i : ℕ) (p t : List Float) → length p ≡ i → length rows ≤ length t
    → fold next_value (laid i (p ++ t)) rows ≡ laid (i + length rows) (p ++ (map (λ (row : Row). row.value) rows ++ drop (length rows) t))
unfolding next_value
values-laid [] i p t e h = rw add-zero
values-laid (row ∷ rows) i p [] e h = absurd (omega arith)
values-laid (row ∷ rows) i p (v ∷ t) e h =
    let q : set (p ++ v ∷ t) i row.value ≡ (p ++ (row.value ∷ [])) ++ t = set_at p v t row.value i e ∙ sym (append_assoc p (row.value ∷ []) t) in
    let l : length (p ++ (row.value ∷ [])) ≡ i + 1 = length-append p (row.value ∷ []) ∙ ap (λ n. n + 1) e in
    let k : length rows ≤ length t = omega arith in
    let c : i + 1 + length rows ≡ i + suc (length rows) = omega arith in
    ap (λ r. fold next_value (laid (i + 1) r) rows) q
    ∙ values-laid rows (i + 1) (p ++ (row.value ∷ [])) t l k
    ∙ rw (c, append_assoc)

module _ (es : List Active) (ls : List Line) (places : List ℕ) (x : List Float) where
  values-turn : (s : Laid) (k : ℕ) → values_next es ls places x s k ≡ fold next_value s (rows_at es ls places x k)
  unfolding values_next
  values-turn s k = refl

module _ (es : List Active) (ls : List Line) (places chosen : List ℕ) (x : List Float) where
  pub rows-counted : length (rows_for es ls places chosen x) ≡ row_count es chosen
  unfolding rows_for row_count
  rows-counted = sym (zero-add _) ∙ counted es ls places x chosen 0

  pub values-long : length (values_at es ls places chosen x) ≡ row_count es chosen
  unfolding values_at
  values-long = length-map (rows_for es ls places chosen x) (λ (row : Row). row.value) ∙ rows-counted

  all-values : (s : Laid) → fold (values_next es ls places x) s chosen ≡ fold next_value s (rows_for es ls places chosen x)
  unfolding rows_for
  all-values s = fold-parts next_value (rows_at es ls places x) (values_next es ls places x) (values-turn es ls places x) chosen s

  pub column_is : (r : List Float) → length chosen ≤ 40 → row_count es chosen ≤ length r
      → column_of es ls places x chosen r ≡ laid (row_count es chosen) (values_at es ls places chosen x ++ drop (row_count es chosen) r)
  unfolding column_of values_at
  column_is r few room =
      let rows = rows_for es ls places chosen x in
      let h : length rows ≤ length r = rw rows-counted room in
      rw (le-ltb 40 (length chosen) few)
      (all-values (laid 0 r) ∙ values-laid rows 0 [] r refl h ∙ rw (zero-add, rows-counted))

-- ---- the dense rows

-- a row's places are past the front p, and the rest t of the slice is past them
module _ (n base : ℕ) (p : List Float) (e : length p ≡ base) (d t : List Float) (l : length d ≡ n) where
  added : (k : FreeNo) (v : Float) → add_at n base k v (p ++ (d ++ t)) ≡ p ++ (add_at n 0 k v d ++ t)
  unfolding add_at
  added k v = pick (ltb k.0 n) refl
    where
      pick : (b : Bool) → ltb k.0 n ≡ b
          → cond b (set (p ++ (d ++ t)) (base + k.0) (get_or (p ++ (d ++ t)) (base + k.0) nan ⊕ v)) (p ++ (d ++ t))
          ≡ p ++ (cond b (set d (0 + k.0) (get_or d (0 + k.0) nan ⊕ v)) d ++ t)
      pick false h = refl
      pick true h =
          let q : k.0 < length d = rw l (ltb-true k.0 n h) in
          rw (zero-add, get-past p (d ++ t) base k.0 nan e, get_or-append d t nan k.0 q, set_past p (d ++ t) base k.0 (get_or d k.0 nan ⊕ v) e, set-append_left d t k.0 (get_or d k.0 nan ⊕ v) q)

  added-long : (k : FreeNo) (v : Float) → length (add_at n 0 k v d) ≡ n
  unfolding add_at
  added-long k v = pick (ltb k.0 n)
    where
      pick : (b : Bool) → length (cond b (set d (0 + k.0) (get_or d (0 + k.0) nan ⊕ v)) d) ≡ n
      pick false = l
      pick true = length-set d (0 + k.0) (get_or d (0 + k.0) nan ⊕ v) ∙ l

module _ (places columns : List ℕ) (n base : ℕ) (p : List Float) (e : length p ≡ base) (t : List Float) where
  entry-laid : (d : List Float) (a : Entry) → length d ≡ n → add_entry places columns n base (p ++ (d ++ t)) a ≡ p ++ (add_entry places columns n 0 d a ++ t)
  unfolding add_entry
  entry-laid d a l =
      let k = local_of places a.point in
      let first = add_at n 0 (free_of columns (2 * k)) a.d.x d in
      ap (add_at n base (free_of columns (2 * k + 1)) a.d.y) (added n base p e d t l (free_of columns (2 * k)) a.d.x)
      ∙ added n base p e first t (added-long n base p e d t l (free_of columns (2 * k)) a.d.x) (free_of columns (2 * k + 1)) a.d.y

  entry-long : (d : List Float) (a : Entry) → length d ≡ n → length (add_entry places columns n 0 d a) ≡ n
  unfolding add_entry
  entry-long d a l =
      let k = local_of places a.point in
      let first = add_at n 0 (free_of columns (2 * k)) a.d.x d in
      added-long n base p e first t (added-long n base p e d t l (free_of columns (2 * k)) a.d.x) (free_of columns (2 * k + 1)) a.d.y

  entries-laid : (gs : List Entry) (d : List Float) → length d ≡ n
      → fold (add_entry places columns n base) (p ++ (d ++ t)) gs ≡ p ++ (fold (add_entry places columns n 0) d gs ++ t)
  entries-laid [] d l = refl
  entries-laid (a ∷ gs) d l =
      ap (λ s. fold (add_entry places columns n base) s gs) (entry-laid d a l) ∙ entries-laid gs (add_entry places columns n 0 d a) (entry-long d a l)

  entries-long : (gs : List Entry) (d : List Float) → length d ≡ n → length (fold (add_entry places columns n 0) d gs) ≡ n
  entries-long [] d l = l
  entries-long (a ∷ gs) d l = entries-long gs (add_entry places columns n 0 d a) (entry-long d a l)

-- a row's n places are cleared first
clears : (k i base : ℕ) (p z t : List Float) → length p ≡ base → length z ≡ i → k ≤ length t
    → turns k i (clear_at base) (p ++ (z ++ t)) ≡ p ++ ((z ++ replicate k zero⁺) ++ drop k t)
unfolding turns clear_at
clears zero i base p z t e l h = rw append-nil
clears (suc k) i base p z [] e l h = absurd (omega arith)
clears (suc k) i base p z (v ∷ t) e l h =
    let q : set (p ++ (z ++ v ∷ t)) (base + i) zero⁺ ≡ p ++ ((z ++ (zero⁺ ∷ [])) ++ t) =
    set_past p (z ++ v ∷ t) base i zero⁺ e ∙ ap (λ s. p ++ s) (set_at z v t zero⁺ i l ∙ sym (append_assoc z (zero⁺ ∷ []) t)) in
    let m : length (z ++ (zero⁺ ∷ [])) ≡ i + 1 = length-append z (zero⁺ ∷ []) ∙ ap (λ n. n + 1) l in
    ap (turns k (i + 1) (clear_at base)) q ∙ clears k (i + 1) base p (z ++ (zero⁺ ∷ [])) t e m (omega arith)
    ∙ ap (λ s. p ++ (s ++ drop k t)) (append_assoc z (zero⁺ ∷ []) (replicate k zero⁺))

module _ (places columns : List ℕ) (n : ℕ) where
  cleared : (base : ℕ) (p t : List Float) → length p ≡ base → n ≤ length t → cleared_of n base (p ++ t) ≡ p ++ (replicate n zero⁺ ++ drop n t)
  unfolding cleared_of up_to
  cleared base p t e h = rw sub-zero (clears n 0 base p [] t e refl h)

  row_laid : (base : ℕ) (p t : List Float) (gs : List Entry) → length p ≡ base → n ≤ length t
      → row_into places columns n base (p ++ t) gs ≡ p ++ (dense_row places columns n gs ++ drop n t)
  unfolding row_into dense_row
  row_laid base p t gs e h =
      ap (λ s. fold (add_entry places columns n base) s gs) (cleared base p t e h)
      ∙ entries-laid places columns n base p e (drop n t) gs (replicate n zero⁺) (length-replicate n zero⁺)

  row-long : (gs : List Entry) → length (dense_row places columns n gs) ≡ n
  unfolding dense_row
  row-long gs = entries-long places columns n 0 [] refl [] gs (replicate n zero⁺) (length-replicate n zero⁺)

  abbrev dense : Row → List Float
  dense row = dense_row places columns n row.entries

  table-laid : (rows : List Row) (i : ℕ) (p t : List Float) → length p ≡ i * n → length rows * n ≤ length t
      → fold (next_row places columns n) (laid i (p ++ t)) rows ≡ laid (i + length rows) (p ++ (flat_map dense rows ++ drop (length rows * n) t))
  unfolding next_row flat_map
  table-laid [] i p t e h = rw (add-zero, zero-mul)
  table-laid (row ∷ rows) i p t e h =
      let m : suc (length rows) * n ≡ n + length rows * n = suc-mul (length rows) n ∙ add_comm (length rows * n) n in
      let q : row_into places columns n (i * n) (p ++ t) row.entries ≡ (p ++ dense row) ++ drop n t =
      row_laid (i * n) p t row.entries e (omega (arith, m)) ∙ sym (append_assoc p (dense row) (drop n t)) in
      let l : length (p ++ dense row) ≡ (i + 1) * n =
      length-append p (dense row) ∙ rw (e, row-long row.entries) (sym (add-mul i 1 n ∙ ap (λ k. i * n + k) (one-mul n))) in
      let k : length rows * n ≤ length (drop n t) = rw length-drop (omega (arith, m)) in
      let c : i + 1 + length rows ≡ i + suc (length rows) = omega arith in
      ap (λ r. fold (next_row places columns n) (laid (i + 1) r) rows) q
      ∙ table-laid rows (i + 1) (p ++ dense row) (drop n t) l k
      ∙ rw (c, drop-drop, m, append_assoc, append_assoc)

  pub table-long : (rows : List Row) → length (flat_map dense rows) ≡ length rows * n
  unfolding flat_map
  table-long [] = sym (zero-mul n)
  table-long (row ∷ rows) =
      length-append (dense row) (flat_map dense rows)
      ∙ rw (row-long row.entries, table-long rows) (sym (suc-mul (length rows) n ∙ add_comm (length rows * n) n))

module _ (es : List Active) (ls : List Line) (places columns chosen : List ℕ) (n : ℕ) (x : List Float) where
  rows-turn : (s : Laid) (k : ℕ) → rows_next es ls places x columns n s k ≡ fold (next_row places columns n) s (rows_at es ls places x k)
  unfolding rows_next
  rows-turn s k = refl

  all-rows : (s : Laid) → fold (rows_next es ls places x columns n) s chosen ≡ fold (next_row places columns n) s (rows_for es ls places chosen x)
  unfolding rows_for
  all-rows s = fold-parts (next_row places columns n) (rows_at es ls places x) (rows_next es ls places x columns n) rows-turn chosen s

  pub jacobian-long : length (jacobian_at es ls places chosen columns n x) ≡ row_count es chosen * n
  unfolding jacobian_at
  jacobian-long = table-long places columns n (rows_for es ls places chosen x) ∙ rw (rows-counted es ls places chosen x)

  pub table_is : (j : List Float) → length chosen ≤ 40 → n ≤ 80 → row_count es chosen * n ≤ length j
      → jacobian_of es ls places x columns n chosen j
      ≡ laid (row_count es chosen) (jacobian_at es ls places chosen columns n x ++ drop (row_count es chosen * n) j)
  unfolding jacobian_of jacobian_at
  table_is j few narrow room =
      let rows = rows_for es ls places chosen x in
      let h : length rows * n ≤ length j = rw (rows-counted es ls places chosen x) room in
      rw (le-ltb 40 (length chosen) few, le-ltb 80 n narrow)
      (all-rows (laid 0 j) ∙ table-laid places columns n rows 0 [] j (sym (zero-mul n)) h ∙ rw (zero-add, rows-counted es ls places chosen x))

  -- in a slice of the very length
  pub whole_table : (j : List Float) → length chosen ≤ 40 → n ≤ 80 → length j ≡ row_count es chosen * n
      → jacobian_of es ls places x columns n chosen j ≡ laid (row_count es chosen) (jacobian_at es ls places chosen columns n x)
  whole_table j few narrow long =
      let room : row_count es chosen * n ≤ length j = rw long (le_refl _) in
      let full : length j ≤ row_count es chosen * n = rw long (le_refl _) in
      table_is j few narrow room ∙ rw (drop_of_length-le j full, append-nil)
