-- Row k on is lent to the turn of k; what lies before it, the reflectors, stays. Assumes nothing.
use Prim.Native.Nat.{ℕ, ◌+◌, ◌-◌, ◌*◌, ◌≤◌}
use mathlib.Core.Bool.{Bool, true, false, cond}
use mathlib.Core.List.{List, ◌++◌}
use mathlib.Core.Path.{◌≡◌, refl, sym, ap, ◌∙◌}
use native.Mathlib.Nat.{le_refl, le_antisymm}
use native.Mathlib.Omega.{arith}
use lib.ListN.{length, take, drop, length-drop}
use lib.Seq.{length-take-le, take_at}
use lib.Ieee.{Float}
use borrow.Author.Rules.{rules}
use Rattle.std.specs.Prelude.{Option, Some, None, is_some}
use Rattle.loops.proofs.Turning.{while_to-next, while_to-stop, while_to-done}
use Rattle.loops.proofs.Cells.{cell_row}
use Rattle.loops.proofs.Parts.{tail-part, past-tail}
use Rattle.nullspace.specs.Layout.{Turned, laid_out, laid_on, laid, laid_rank, laid_reflectors, laid_turn, first_norm_of, turns-on}
use Rattle.nullspace.proofs.qr.decompose.Goals as goal

rest-fits : (rows n k l : ℕ) → k ≤ rows → rows * n ≤ l → (rows - k) * n ≤ l - k * n
rest-fits rows n k l h t =
    let e : rows ≡ k + (rows - k) = omega arith in
    omega (arith, ap (λ x. x * n) e)

module _ (rows n k : ℕ) (first : Float) (w t : List Float) (r : Option Float) (e : Turned n (rows - k) k first (take (length w - k * n) (drop (k * n) w)) t r) where
  told : Turned n (rows - k) k first (drop (k * n) w) t r
  told = rw tail-part at e

  on : (x : Float) → r ≡ Some x → (laid_on rows n k (laid k first w) ≡ true) × (x ≡ first_norm_of n (rows - k) k first (drop (k * n) w))
  unfolding laid_on
  on x q = by (turns-on n (rows - k) k first (drop (k * n) w)) refl (sym q ∙ told.next)
    where
      by : (b : Bool) → turns-on n (rows - k) k first (drop (k * n) w) ≡ b → Some x ≡ cond b (Some (first_norm_of n (rows - k) k first (drop (k * n) w))) None
          → (turns-on n (rows - k) k first (drop (k * n) w) ≡ true) × (x ≡ first_norm_of n (rows - k) k first (drop (k * n) w))
      by true h p = (h, cc)
      by false h p = (cc, cc)

  stops : r ≡ None → laid_on rows n k (laid k first w) ≡ false
  unfolding laid_on
  stops q = by (turns-on n (rows - k) k first (drop (k * n) w)) (sym q ∙ told.next)
    where
      by : (b : Bool) → None ≡ cond b (Some (first_norm_of n (rows - k) k first (drop (k * n) w))) None → b ≡ false
      by true p = cc
      by false p = refl

  next : (x : Float) → r ≡ Some x → laid (k + 1) x (take (k * n) w ++ (t ++ drop (length w - k * n) (drop (k * n) w))) ≡ laid_turn rows n k (laid k first w)
  unfolding laid_turn
  next x q = rw (past-tail w t (k * n), (on x q).1, told.left (ap is_some q))

kept : (w t : List Float) (k : ℕ) → k ≤ length w → take k (take k w ++ t) ≡ take k w
kept w t k h = take_at (take k w) t k (length-take-le k w h)

pub loop-k-init : goal.loop-k-init
unfolding laid_out
loop-k-init c = ((search rules, c.min-last.ensures), refl, rw c.min-last.ensures)

pub turn-requires : goal.turn-requires
turn-requires c = ((search rules, search rules), rw (tail-part, length-drop) (rest-fits _ _ _ _ (search rules) (search rules)))

pub returns-in-None : goal.returns-in-None
returns-in-None c = let e = while_to-stop _ _ _ _ _ _ c.loop-k-test.true (stops c.args.rows c.args.n c.loop-k.k c.loop-k.first c.loop-k.w c.turn.new.t c.turn.result c.turn.ensures c.in-None.is) c.loop-k.invariant.2 in
    record { bounded = search rules; rank = ap laid_rank e; reflectors = kept c.loop-k.w _ (c.loop-k.k * c.args.n) (omega (arith, cell_row c.args.rows c.args.n c.loop-k.k (c.args.rows * c.args.n) (search rules) (le_refl (c.args.rows * c.args.n)))) ∙ ap (laid_reflectors c.args.n) e }

pub loop-k-preserved : goal.loop-k-preserved
loop-k-preserved c = (
  (search rules, c.loop-k.invariant.0.1),
  search rules,
  while_to-next _ _ _ _ _ _ _ c.loop-k-test.true
      (on c.args.rows c.args.n c.loop-k.k c.loop-k.first c.loop-k.w c.turn.new.t c.turn.result c.turn.ensures c.in-Some.norm c.in-Some.is).0
      (next c.args.rows c.args.n c.loop-k.k c.loop-k.first c.loop-k.w c.turn.new.t c.turn.result c.turn.ensures c.in-Some.norm c.in-Some.is)
      c.loop-k.invariant.2,
)

pub returns : goal.returns
returns c = let e = while_to-done _ _ _ _ _ _ c.loop-k-test.false c.loop-k.invariant.2 in
    let q = le_antisymm c.loop-k-test.false c.loop-k.invariant.0.0 in
    record { bounded = search rules; rank = q ∙ ap laid_rank e; reflectors = ap (λ x. take (x * c.args.n) c.loop-k.w) q ∙ ap (laid_reflectors c.args.n) e }
