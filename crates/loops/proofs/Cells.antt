-- The places of a table that lies in a slice row after row: row r, column c of a table of n columns is at r * n + c.
--     cell-mul, cell-add   that place's number fits a usize, where the table's rows m and columns n are within the slice
--     cell_in              it is within the slice
--     cell_row             the whole row is within the slice
--     cell-column          two places that are one place are in one column
--     cells                the set for `search`
-- Assumes nothing.
use Prim.Native.Nat.{ℕ, ◌+◌, ◌*◌, ◌%◌, ◌≤◌, ◌<◌, ◌^◌}
use mathlib.Core.List.{List}
use mathlib.Core.Path.{◌≡◌, sym, ap, ◌∙◌}
use native.Mathlib.Nat.{mul-le-mul_right, mod-eq_of_lt, mul-add-mod_self_right}
use native.Mathlib.Omega.{arith}
use lib.ListN.{length}
use mir.Val.{Fits}
use mir.Syntax.{w64}

cell : (m n r c k : ℕ) → r < m → c < n → m * n ≤ k → r * n + c < k
cell m n r c k h q t = omega (arith, mul-le-mul_right n h)

module _ {A : Type 0} where
  pub cell_in : (m n r c : ℕ) (l : List A) → r < m → c < n → m * n ≤ length l → r * n + c < length l
  cell_in m n r c l h q t = cell m n r c (length l) h q t

pub cell-mul : (m n r k : ℕ) → r < m → m * n ≤ k → k < 2 ^ 64 → Fits w64 (r * n)
cell-mul m n r k h t f = record { fits = omega (arith, mul-le-mul_right n h) }

pub cell-add : (m n r c k : ℕ) → r < m → c < n → m * n ≤ k → k < 2 ^ 64 → Fits w64 (r * n + c)
cell-add m n r c k h q t f = let p : r * n + c < k = cell m n r c k h q t in record { fits = omega arith }

pub cell_row : (m n r k : ℕ) → r < m → m * n ≤ k → r * n + n ≤ k
cell_row m n r k h t = omega (arith, mul-le-mul_right n h)

pub cell-column : (n r c q i : ℕ) → c < n → i < n → r * n + c ≡ q * n + i → c ≡ i
cell-column n r c q i h k e =
    sym (mod-eq_of_lt h) ∙ sym (mul-add-mod_self_right r n c) ∙ ap (λ p. p % n) e ∙ mul-add-mod_self_right q n i ∙ mod-eq_of_lt k

pub ruleset cells = (cell_in, cell-mul, cell-add, cell_row)
