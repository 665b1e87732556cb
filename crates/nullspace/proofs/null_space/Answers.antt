-- A refusal, or what is carried out, handed out and cleared. Assumes nothing.
use Prim.Native.Nat.{ℕ, ◌-◌, ◌*◌, ◌≤◌}
use mathlib.Core.List.{List, ◌++◌}
use mathlib.Core.Path.{◌≡◌, ap, ◌∙◌}
use lib.ListN.{length, take, drop, replicate}
use lib.Ieee.{Float}
use Rattle.std.specs.Prelude.{Ok}
use Rattle.std.proofs.lemmas.Result.{err_from_is_err_and}
use Rattle.floats.specs.Ops.{zero⁺}
use Rattle.loops.specs.Numbers.{values}
use Rattle.loops.proofs.Parts.{refilled}
use Rattle.nullspace.specs.Steps.{Qr, reflectors_of, rank_of}
use Rattle.nullspace.specs.Promise.{Spans, meaning_of, decomposed_of, found_in, vectors_of}
use Rattle.nullspace.proofs.Checking.{carried-out, none-changed}
use Rattle.nullspace.proofs.Laid.{found, basis-read}
use Rattle.nullspace.proofs.null_space.Goals as goal

-- what is handed out, read back
meant : (rows n : ℕ) (m y b : List Float) (r : ℕ) → rows * n ≤ length m → r ≡ rank_of (decomposed_of rows n m) → y ≡ vectors_of rows n m ++ b
    → meaning_of n y (Ok r) ≡ values (found_in rows n m)
meant rows n m y b r fit e q =
    let d : Qr = decomposed_of rows n m in
    let f = found rows n m fit in
    rw (e, q) (ap (λ l. values (record { rank = rank_of d; basis = l })) (basis-read n (reflectors_of d) f.wide f.few b))

spans : (rows n : ℕ) (m w out w₁ z y : List Float) (r : ℕ) → rows ≤ 64 → n ≤ 80 → rows * n ≤ length m → rows * n ≤ length w → n * n ≤ length out
    → length w₁ ≡ length (take (rows * n) w) → z ≡ replicate (length (take (rows * n) (w₁ ++ drop (rows * n) w))) zero⁺
    → (r ≡ rank_of (decomposed_of rows n m)) × (y ≡ vectors_of rows n m ++ drop ((n - r) * n) out)
    → Spans rows n m w out (z ++ drop (rows * n) (w₁ ++ drop (rows * n) w)) y (Ok r)
spans rows n m w out w₁ z y r h c a b o same zeros got = record {
  answer = carried-out rows n m w out _ _ _ _ h c a b o (ap Ok got.0);
  meaning = carried-out rows n m w out _ _ _ _ h c a b o (meant rows n m y _ r a got.0 got.1);
  work = carried-out rows n m w out _ _ _ _ h c a b o (refilled zero⁺ (rows * n) w w₁ z b same zeros);
  output = carried-out rows n m w out _ _ _ _ h c a b o (got.1 ∙ ap (λ x. vectors_of rows n m ++ drop ((n - x) * n) out) got.0);
}

pub returns-in_err-check : goal.returns-in_err-check
returns-in_err-check c =
    let p = err_from_is_err_and c.from_residual.result c.from_residual.ensures.1 in
    rw (p.1, p.2) (none-changed _ _ _ _ _ _ (rw c.in_err-check.was at c.check.ensures.answer))

pub returns : goal.returns
returns c =
    let f = c.in_ok-check.ensures.fits in
    spans _ _ _ _ _ c.span-rank.new.work _ _ _ f.0 f.1 f.2 f.3 f.4 c.span-rank.auto.work (c.fill.ensures.after (λ y h. h)) c.span-rank.ensures
