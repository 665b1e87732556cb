-- The three steps one after the other: what each leaves is what the next one is about. Assumes nothing.
use Prim.Native.Nat.{ℕ, ◌-◌, ◌*◌, ◌≤◌, min}
use mathlib.Core.List.{List, ◌++◌}
use mathlib.Core.Path.{◌≡◌, ap, ap₂, ◌∙◌}
use native.Mathlib.Nat.{mul-le-mul_right, le_refl}
use native.Mathlib.Omega.{arith}
use lib.ListN.{length, take, drop}
use lib.Ieee.{Float}
use Rattle.loops.proofs.Parts.{front}
use Rattle.nullspace.specs.Steps.{reflectors_of, rank_of}
use Rattle.nullspace.specs.Layout.{Decomposes, laid_out, laid_basis, unit_rows}
use Rattle.nullspace.specs.Promise.{decomposed_of, vectors_of}
use Rattle.nullspace.proofs.Laid.{Found, found, basis-laid}
use borrow.Author.Rules.{rules}
use Rattle.nullspace.proofs.span.Goals as goal

kept_in : (r rows n l : ℕ) → r ≤ min n rows → l ≡ rows * n → r * n ≤ l
kept_in r rows n l h e = let k : r ≤ rows = omega arith in omega (arith, mul-le-mul_right n k)

module _ (rows n r : ℕ) (m w₁ w₂ : List Float) (fit : rows * n ≤ length m) (units : w₁ ≡ unit_rows rows n m) (d : Decomposes rows n w₁ w₂ r) where
  told : Decomposes rows n (unit_rows rows n m) w₂ r
  told = rw units at d

  abbrev here : Found n (laid_out rows n (unit_rows rows n m)) (decomposed_of rows n m)
  here = found rows n m fit

  rank_is : r ≡ rank_of (decomposed_of rows n m)
  rank_is = told.rank ∙ here.rank

  basis-is : laid_basis n r (take (r * n) w₂) ≡ vectors_of rows n m
  basis-is = ap₂ (laid_basis n) rank_is (told.reflectors ∙ here.reflectors) ∙ basis-laid n (reflectors_of (decomposed_of rows n m)) here.wide here.few

  spans : (out y : List Float) → y ≡ laid_basis n r (take (r * n) w₂) ++ drop ((n - r) * n) out → y ≡ vectors_of rows n m ++ drop ((n - r) * n) out
  spans out y e = e ∙ ap (λ l. l ++ drop ((n - r) * n) out) basis-is

pub vectors-requires : goal.vectors-requires
vectors-requires c = let k = kept_in _ _ _ (length c.decompose-rank.new.w) c.decompose-rank.ensures.bounded (search rules) in
    ((omega (arith, c.decompose-rank.ensures.bounded), search rules), rw (← front _ _ k) (le_refl _))

pub returns : goal.returns
returns c = (rank_is _ _ _ _ _ _ c.requires.0 c.unit_rows.ensures c.decompose-rank.ensures, spans _ _ _ _ _ _ c.requires.0 c.unit_rows.ensures c.decompose-rank.ensures _ _ c.vectors.ensures)
