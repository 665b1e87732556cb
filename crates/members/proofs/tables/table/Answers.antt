-- Assumes nothing.
use Prim.Native.Nat.{ℕ, ◌+◌, ◌<◌}
use mathlib.Core.List.{List}
use mathlib.Core.Path.{◌≡◌, refl, ap, ◌∙◌}
use borrow.Author.Rules.{rules}
use lib.ListN.{length, get_or, set}
use Rattle.loops.proofs.Parts.{any-default}
use Rattle.loops.proofs.Turning.{up_to-next, up_to-done}
use Rattle.loops.specs.Turns.{up_to}
use Rattle.members.specs.Tables.{number_at, numbered_of}
use Rattle.members.proofs.tables.table.Goals as goal

turn : (items : List ℕ) (k d : ℕ) (t t' R : List ℕ) → k < length items → t' ≡ set t (get_or items k d) k → up_to (length items) k (number_at items) t ≡ R
    → up_to (length items) (k + 1) (number_at items) t' ≡ R
unfolding number_at
turn items k d t t' R h e r = up_to-next (number_at items) (length items) k t t' R h (e ∙ ap (λ c. set t c k) (any-default items k d 0 h)) r

pub loop-k-init : goal.loop-k-init
unfolding numbered_of
loop-k-init g c = refl

pub loop-k-preserved : goal.loop-k-preserved
loop-k-preserved g c =
    let l = c.loop-k in
    turn _ l.k _ l.t _ _ (search rules) c.put.ensures l.invariant

pub returns : goal.returns
returns g c =
    let l = c.loop-k in
    rw (← c.numbers-c-items.ensures.numbers) (up_to-done _ _ l.k l.t _ (search rules) l.invariant)
