-- As many items as a count says, where the code takes no more than there are. Assumes nothing.
use Prim.Native.Nat.{ℕ, ◌≤◌, min}
use mathlib.Core.List.{List}
use mathlib.Core.Path.{◌≡◌, sym, ◌∙◌}
use native.Mathlib.Decide.{dec_le}
use native.Mathlib.Omega.{arith}
use lib.ListN.{length, take}
use lib.Seq.{take_all}

pub taken : {A : Type 0} (l : List A) (count n m : ℕ) → length l ≡ m → n ≡ min count m → take n l ≡ take count l
taken l count n m e h = go (dec_le count m)
  where
    go : Dec (count ≤ m) → take n l ≡ take count l
    go (yes k) = let q : n ≡ count = omega arith in rw q
    go (no k) = take_all n l (omega arith) ∙ sym (take_all count l (omega arith))
