-- The vectors are written one after another, and what lies past them stays. Assumes nothing.
use Prim.Native.Nat.{ℕ, ◌+◌, ◌-◌, ◌*◌, ◌≤◌}
use mathlib.Core.List.{List, ◌++◌}
use mathlib.Core.Path.{◌≡◌, refl, sym, ap, ◌∙◌}
use native.Mathlib.Nat.{le_refl, le_antisymm, zero-mul}
use native.Mathlib.Omega.{arith}
use lib.ListN.{length, take, drop, take-append-drop}
use lib.Seq.{drop-drop}
use lib.Ieee.{Float}
use borrow.Author.Rules.{rules}
use Rattle.loops.specs.Turns.{up_to}
use Rattle.loops.proofs.Turning.{up_to-next, up_to-done}
use Rattle.loops.proofs.Cells.{cell_row}
use Rattle.nullspace.specs.Layout.{add_vector, laid_basis, laid_vector}
use Rattle.nullspace.proofs.Built.{part_length, take-built, drop-built}
use Rattle.nullspace.proofs.basis.vectors.Goals as goal

none : (j n : ℕ) → (j - j) * n ≡ 0
none j n = let e : j - j ≡ 0 = omega arith in rw e (zero-mul n)

one-more : (j rank n : ℕ) → rank ≤ j → (j + 1 - rank) * n ≡ (j - rank) * n + n
one-more j rank n h =
    let e : j + 1 - rank ≡ (j - rank) + 1 = omega arith in
    omega (arith, ap (λ x. x * n) e)

module _ (n rank j : ℕ) (v out₀ out y : List Float) (h : rank ≤ j) (fit : (j - rank) * n + n ≤ length out)
    (size : length y ≡ length (take ((j - rank) * n + n - (j - rank) * n) (drop ((j - rank) * n) out))) where
  abbrev built : List Float
  built = take ((j - rank) * n) out ++ (y ++ drop ((j - rank) * n + n - (j - rank) * n) (drop ((j - rank) * n) out))

  taken : y ≡ laid_vector n rank v j → take ((j + 1 - rank) * n) built ≡ add_vector n rank v j (take ((j - rank) * n) out)
  unfolding add_vector
  taken e = rw (one-more j rank n h) (take-built ((j - rank) * n) n out y fit size ∙ ap (λ y. take ((j - rank) * n) out ++ y) e)

  left : drop ((j - rank) * n) out ≡ drop ((j - rank) * n) out₀ → drop ((j + 1 - rank) * n) built ≡ drop ((j + 1 - rank) * n) out₀
  left e =
      rw (one-more j rank n h)
      (drop-built ((j - rank) * n) n out y fit size
      ∙ sym (drop-drop n ((j - rank) * n) out)
      ∙ ap (drop n) e
      ∙ drop-drop n ((j - rank) * n) out₀)

whole : (k : ℕ) (out out₀ l : List Float) → take k out ≡ l → drop k out ≡ drop k out₀ → out ≡ l ++ drop k out₀
whole k out out₀ l e q = sym (take-append-drop k out) ∙ rw (e, q)

at-end : (f : ℕ → List Float → List Float) (n rank j : ℕ) (out out₀ l : List Float) → n ≤ j → j ≤ n → up_to n j f (take ((j - rank) * n) out) ≡ l
    → drop ((j - rank) * n) out ≡ drop ((j - rank) * n) out₀ → out ≡ l ++ drop ((n - rank) * n) out₀
at-end f n rank j out out₀ l h k q d =
    whole ((j - rank) * n) out out₀ l (up_to-done f n j (take ((j - rank) * n) out) l h q) d ∙ ap (λ x. l ++ drop ((x - rank) * n) out₀) (le_antisymm k h)

pub loop-j-init : goal.loop-j-init
unfolding laid_basis
loop-j-init c = ((search rules, search rules), refl, rw none, refl)

pub vector-requires : goal.vector-requires
vector-requires c = ((part_length ((c.loop-j.j - c.args.rank) * c.args.n) c.args.n c.loop-j.out (omega (arith, cell_row c.args.n c.args.n (c.loop-j.j - c.args.rank) (c.args.n * c.args.n) (search rules) (le_refl (c.args.n * c.args.n)))), search rules), search rules)

pub loop-j-preserved : goal.loop-j-preserved
loop-j-preserved c = ((search rules, search rules), search rules, up_to-next _ _ _ _ _ _ c.loop-j-test.true (taken c.args.n c.args.rank c.loop-j.j c.args.v.now c.args.out.now c.loop-j.out c.vector.new.e c.loop-j.invariant.0.0 (omega (arith, cell_row c.args.n c.args.n (c.loop-j.j - c.args.rank) (c.args.n * c.args.n) (search rules) (le_refl (c.args.n * c.args.n)))) c.vector.auto.e c.vector.ensures) c.loop-j.invariant.2, left c.args.n c.args.rank c.loop-j.j c.args.v.now c.args.out.now c.loop-j.out c.vector.new.e c.loop-j.invariant.0.0 (omega (arith, cell_row c.args.n c.args.n (c.loop-j.j - c.args.rank) (c.args.n * c.args.n) (search rules) (le_refl (c.args.n * c.args.n)))) c.vector.auto.e c.loop-j.invariant.3)

pub returns : goal.returns
returns c = at-end _ _ _ c.loop-j.j c.loop-j.out c.args.out.now _ c.loop-j-test.false c.loop-j.invariant.0.1 c.loop-j.invariant.2 c.loop-j.invariant.3
