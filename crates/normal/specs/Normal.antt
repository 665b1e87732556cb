-- solver.rs, `solve`: what a round makes of the Jacobian. j is rows × nf, row after row; a is rows × rows.
use Rattle.std.specs.Prelude.{ℕ, ◌+◌, ◌*◌, List, Float, get_or, set, replicate}
use Rattle.std.specs.Float.{nan}
use Rattle.floats.specs.Magnitude.{max_of}
use Rattle.floats.specs.Ops.{◌⊕◌, ◌⊖◌, ◌⊗◌, zero⁺, zero⁻, 1e-300}
use Rattle.loops.specs.Turns.{up_to}

-- (0..nf).map(|c| jac[i * nf + c] * jac[k * nf + c]).sum()
unfoldable pub add_product : ℕ → List Float → ℕ → ℕ → ℕ → Float → Float
add_product nf j i k c s = s ⊕ get_or j (i * nf + c) nan ⊗ get_or j (k * nf + c) nan

unfoldable pub rows_product : ℕ → List Float → ℕ → ℕ → Float
rows_product nf j i k = up_to nf 0 (add_product nf j i k) zero⁻

-- a[i * rows + k] = s; a[k * rows + i] = s
unfoldable pub set_both : ℕ → ℕ → ℕ → Float → List Float → List Float
set_both rows i k s a = set (set a (i * rows + k) s) (k * rows + i) s

unfoldable pub pair_of : ℕ → ℕ → List Float → ℕ → ℕ → List Float → List Float
pair_of rows nf j i k a = set_both rows i k (rows_product nf j i k) a

-- for k in i..rows
unfoldable pub pairs_of : ℕ → ℕ → List Float → ℕ → List Float → List Float
pairs_of rows nf j i a = up_to rows i (pair_of rows nf j i) a

-- A = J Jᵀ, from zeros
unfoldable pub product_of : ℕ → ℕ → List Float → List Float
product_of rows nf j = up_to rows 0 (pairs_of rows nf j) (replicate (rows * rows) zero⁺)

-- (0..rows).map(|i| a[i * rows + i]).fold(0.0f64, f64::max).max(1e-300)
unfoldable pub max_on_diagonal : ℕ → List Float → ℕ → Float → Float
max_on_diagonal rows a i m = max_of m (get_or a (i * rows + i) nan)

unfoldable pub largest_of : ℕ → List Float → Float
largest_of rows a = up_to rows 0 (max_on_diagonal rows a) zero⁺

unfoldable pub diag_max_of : ℕ → List Float → Float
diag_max_of rows a = max_of (largest_of rows a) 1e-300

-- for i in 0..rows { ad[i * rows + i] += mu * diag_max; }
unfoldable pub add_on_diagonal : ℕ → Float → Float → ℕ → List Float → List Float
add_on_diagonal rows mu m i a = set a (i * rows + i) (get_or a (i * rows + i) nan ⊕ mu ⊗ m)

unfoldable pub damped_of : ℕ → Float → Float → List Float → List Float
damped_of rows mu m a = up_to rows 0 (add_on_diagonal rows mu m) a

-- y.iter().enumerate().map(|(i, yi)| jac[i * nf + c] * yi).sum()
unfoldable pub add_step : ℕ → List Float → List Float → ℕ → ℕ → Float → Float
add_step nf j y c i s = s ⊕ get_or j (i * nf + c) nan ⊗ get_or y i nan

unfoldable pub step_of : ℕ → ℕ → List Float → List Float → ℕ → Float
step_of rows nf j y c = up_to rows 0 (add_step nf j y c) zero⁻

-- for (c, &j) in free.iter().enumerate() { xn[j] -= s; }
unfoldable pub move_one : ℕ → ℕ → List Float → List Float → List ℕ → ℕ → List Float → List Float
move_one rows nf j y free c x = set x (get_or free c 0) (get_or x (get_or free c 0) nan ⊖ step_of rows nf j y c)

unfoldable pub moved_of : ℕ → ℕ → List Float → List Float → List ℕ → List Float → List Float
moved_of rows nf j y free x = up_to nf 0 (move_one rows nf j y free) x
