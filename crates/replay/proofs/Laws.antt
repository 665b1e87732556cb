-- What a record that is found gives. Assumes nothing.
use mathlib.Core.Bool.{Bool, true, false}
use mathlib.Core.List.{List}
use mathlib.Core.Path.{◌≡◌, refl, subst}
use Prim.Native.Nat.{ℕ, ◌+◌, ◌≤◌}
use native.Mathlib.Omega.{arith}
use borrow.Author.Tests.{leb-true}
use lib.Dec.{leb}
use lib.ListN.{length}
use Rattle.std.proofs.Common.{Some, None, Ok, if◌then◌else◌}
use Rattle.spelling.proofs.Steps.{some-is, not-both, was-some, bound}
use Rattle.spelling.specs.Places.{eat_of}
use Rattle.spelling.specs.Wholes.{whole_at}
use Rattle.replay.specs.Records.{Within, placed, record_at}
use Rattle.replay.specs.declared.records.Record.{Record}

placed-within : (len at n m : ℕ) (r : Record) → placed len at n m ≡ Some r → Within r len
unfolding placed
placed-within len at n m r = go (leb (at + n + m) len) refl
  where
    go : (b : Bool) → leb (at + n + m) len ≡ b → (if b then Some (record { text = at; reply = at + n; end = at + n + m }) else None) ≡ Some r → Within r len
    go true e h =
        let q : at + n + m ≤ len = leb-true (at + n + m) len e in
        subst (λ (x : Record). Within x len) (some-is h) (record { text-first = omega arith; reply-next = omega arith; all_there = omega arith })
    go false e h = absurd (not-both h)

-- a record that is found is within the pack
pub found_within : (s : List ℕ) (at : ℕ) (r : Record) → record_at s at ≡ Ok r → Within r (length s)
unfolding record_at
found_within s at r h =
    let a = bound (whole_at s at) _ _ h in
    let b = bound (eat_of s a.0.1 32) _ _ a.2 in
    let c = bound (whole_at s b.0) _ _ b.2 in
    let d = bound (eat_of s c.0.1 10) _ _ c.2 in
    placed-within (length s) d.0 a.0.0 c.0.0 r (was-some (placed (length s) d.0 a.0.0 c.0.0) d.0 r d.2)
