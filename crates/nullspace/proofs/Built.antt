-- A list that is built of rows of n: the row at st is the part from st to st + n, lent and come back as y. Assumes nothing.
--     one-row, part_length  that part is n numbers from st on
--     take-built            with y in its place, the list's first st + n numbers are the first st, and y
--     drop-built            what lies past it is as it was
use Prim.Native.Nat.{ℕ, ◌+◌, ◌-◌, ◌≤◌}
use mathlib.Core.List.{List, ◌++◌, append_assoc}
use mathlib.Core.Path.{◌≡◌, ap, ◌∙◌}
use native.Mathlib.Omega.{arith}
use lib.ListN.{length, take, drop, length-append, length-drop}
use lib.Seq.{length-take-le, take_at, drop_at, drop-drop}
use lib.Ieee.{Float}

width : (st n : ℕ) → st + n - st ≡ n
width st n = omega arith

pub one-row : (st n : ℕ) (w : List Float) → take (st + n - st) (drop st w) ≡ take n (drop st w)
one-row st n w = ap (λ k. take k (drop st w)) (width st n)

row-length : (st n : ℕ) (w : List Float) → st + n ≤ length w → length (take n (drop st w)) ≡ n
row-length st n w h = length-take-le n (drop st w) (rw length-drop (omega arith))

pub part_length : (st n : ℕ) (w : List Float) → st + n ≤ length w → length (take (st + n - st) (drop st w)) ≡ n
part_length st n w h = ap length (one-row st n w) ∙ row-length st n w h

module _ (st n : ℕ) (w y : List Float) (fit : st + n ≤ length w) (size : length y ≡ length (take (st + n - st) (drop st w))) where
  front_length : length (take st w ++ y) ≡ st + n
  front_length =
      let p : length (take st w) ≡ st = length-take-le st w (omega arith) in
      let q : length y ≡ n = size ∙ part_length st n w fit in
      length-append (take st w) y ∙ rw (p, q)

  pub take-built : take (st + n) (take st w ++ (y ++ drop (st + n - st) (drop st w))) ≡ take st w ++ y
  take-built = rw (← append_assoc) (take_at (take st w ++ y) (drop (st + n - st) (drop st w)) (st + n) front_length)

  pub drop-built : drop (st + n) (take st w ++ (y ++ drop (st + n - st) (drop st w))) ≡ drop (st + n) w
  drop-built =
      let e : st + (st + n - st) ≡ st + n = omega arith in
      rw (← append_assoc) (drop_at (take st w ++ y) (drop (st + n - st) (drop st w)) (st + n) front_length)
      ∙ drop-drop (st + n - st) st w
      ∙ ap (λ k. drop k w) e
