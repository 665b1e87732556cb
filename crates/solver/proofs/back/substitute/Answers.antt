-- The definition keeps the answers in a list `y` of their own, as the Rust does; here they take the right side's place. Assumes nothing.
use Prim.Native.Nat.{ℕ, zero, suc, ◌+◌, ◌-◌, ◌*◌, ◌≤◌, ◌<◌}
use mathlib.Core.List.{List, [], ◌∷◌, ◌++◌, append-nil}
use mathlib.Core.Path.{◌≡◌, refl, sym, ap, ◌∙◌}
use native.Mathlib.Nat.{not-suc-le-zero, le_of_suc-le-suc, le_refl}
use native.Mathlib.Omega.{arith}
use lib.Ieee.{Float, nan}
use lib.ListN.{length, get_or, take, drop, set, replicate, length-replicate, drop_of_length-le}
use lib.Seq.{get_or-take, get_or-drop, take-take, take-set-le}
use borrow.Author.Rules.{rules}
use Rattle.floats.specs.Ops.{◌⊖◌, ◌⊘◌, zero⁺, zero⁻}
use Rattle.loops.specs.Turns.{down_to}
use Rattle.loops.proofs.Both.{up_to-same}
use Rattle.loops.proofs.Turning.{down_to-next, down_to-done}
use Rattle.loops.proofs.Parts.{get-past}
use Rattle.solver.specs.Steps.{at, add_term, sum_of, back_at, back_of}
use Rattle.solver.proofs.back.substitute.Invariants.{so_far}
use Rattle.solver.proofs.back.substitute.Goals as goal

same-past : (r : ℕ) (b : List Float) (c : ℕ) → r ≤ c → at (so_far r b) c ≡ at b c
unfolding so_far
same-past r b c h =
    let e : c ≡ r + (c - r) = omega arith in
    rw e (get-past (replicate r zero⁺) (drop r b) r (c - r) nan (length-replicate r zero⁺) ∙ get_or-drop r b (c - r) nan)

same_sum : (n k r : ℕ) (a b : List Float) → r ≡ suc k → sum_of n k a b ≡ sum_of n k a (so_far r b)
unfolding sum_of add_term
same_sum n k r a b e =
    up_to-same (add_term n k a b) (add_term n k a (so_far r b)) (k + 1) n (λ i s h _. rw (same-past r b i (omega arith))) zero⁻

written : (k : ℕ) (b : List Float) (v : Float) → k < length b → replicate k zero⁺ ++ drop k (set b k v) ≡ set (replicate (suc k) zero⁺ ++ drop (suc k) b) k v
written k [] v h = absurd (not-suc-le-zero h)
written zero (x ∷ b) v h = refl
written (suc k) (x ∷ b) v h = ap {B = List Float} (λ t. zero⁺ ∷ t) (written k b v (le_of_suc-le-suc h))

module _ (n k r : ℕ) (a b₀ b : List Float) (e : r ≡ suc k) (same : take r b ≡ take r b₀) where
  same-right : at b k ≡ at b₀ k
  same-right =
      let h : k < r = omega arith in
      sym (get_or-take r b k nan h) ∙ ap (λ l. get_or l k nan) same ∙ get_or-take r b₀ k nan h

  turn : (w : Float) → k < length b → w ≡ sum_of n k a b → so_far k (set b k ((at b k ⊖ w) ⊘ at a (k * n + k))) ≡ back_at n a b₀ k (so_far r b)
  unfolding back_at so_far
  turn w h s =
      rw (e, s, same-right, same_sum n k (suc k) a b refl) (written k b ((at b₀ k ⊖ sum_of n k a (so_far (suc k) b)) ⊘ at a (k * n + k)) h)

-- what is left of the right side is as it was
still : (k r : ℕ) (b₀ b : List Float) (v : Float) → r ≡ suc k → take r b ≡ take r b₀ → take k (set b k v) ≡ take k b₀
still k r b₀ b v e same =
    let h : k ≤ r = omega arith in
    take-set-le k b k v (le_refl k) ∙ sym (take-take k r b h) ∙ ap (take k) same ∙ take-take k r b₀ h

at-start : (n : ℕ) (b : List Float) → length b ≡ n → so_far n b ≡ replicate n zero⁺
unfolding so_far
at-start n b e = let h : length b ≤ n = omega arith in rw (drop_of_length-le b h, append-nil)

at-end : (r : ℕ) (f : ℕ → List Float → List Float) (b R : List Float) → r ≤ 0 → down_to r f (so_far r b) ≡ R → b ≡ R
unfolding so_far
at-end r f b R h q = let e : r ≡ 0 = omega arith in rw e at (down_to-done f r (so_far r b) R h q)

pub loop-r-init : goal.loop-r-init
unfolding back_of
loop-r-init c = (search rules, refl, refl, ap (down_to _ _) (at-start _ _ (search rules)))

pub weight-requires : goal.weight-requires
weight-requires c = (search rules, (search rules, search rules))

pub loop-r-preserved : goal.loop-r-preserved
loop-r-preserved c = (
  search rules,
  search rules,
  still (c.loop-r.r - 1) c.loop-r.r c.args.b.now c.loop-r.b _ (omega arith) c.loop-r.invariant.2,
  down_to-next _ _ _ _ _ (search rules) (turn _ _ _ _ _ _ (omega arith) c.loop-r.invariant.2 _ (search rules) c.weight.ensures) c.loop-r.invariant.3,
)

pub returns : goal.returns
returns c = at-end _ _ _ _ (search rules) c.loop-r.invariant.3
