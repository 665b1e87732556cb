-- `fitted-holds` (specs/Groups.antt): at the coordinates of a group that converged, each residual of each of its equations is within the
-- tolerance. Assumes nothing.
use Prim.Native.Nat.{ℕ}
use mathlib.Core.List.{List, map, flat_map, Memᴰ}
use mathlib.Core.Path.{refl}
use lib.Ieee.{Float, of_bits}
use lib.ListN.{length}
use Rattle.floats.specs.Ops.{1e-12}
use Rattle.groups.specs.Chains.{equations_in}
use Rattle.groups.specs.declared.Grouping.{Grouping}
use Rattle.loops.proofs.Flat.{in-flat, map-flat}
use Rattle.members.specs.Movable.{indices_of}
use Rattle.rounds.proofs.Holding.{fit-holds}
use Rattle.rounds.specs.Problem.{row_count, jacobian_at, problem_of, rows_for, values_at}
use Rattle.rows.specs.Column.{rows_at}
use Rattle.rows.specs.Entries.{Row}
use Rattle.sketch.specs.declared.Build.{Build}
use Rattle.floats.proofs.Largest.{all-within}
use Rattle.fit.specs.Frames.{start_in}
use Rattle.fit.specs.Groups.{frame_in, FittedHolds}
use Rattle.fit.proofs.Sets.{equations-back}

abbrev value : Row → Float
value row = row.value

-- the values of one equation's rows are among those of all
among : (f : ℕ → List Row) (k : ℕ) (v : Float) (ks : List ℕ) → Memᴰ k ks → Memᴰ v (map value (f k)) → Memᴰ v (map value (flat_map f ks))
among f k v ks m i = rw (map-flat f value ks) (in-flat (λ j. map value (f j)) ks m i)

module _ (b : Build) (gr : Grouping) (g : ℕ) where
  pub fitted-holds : FittedHolds b gr g
  unfolding values_at rows_for of_bits
  fitted-holds x i t e k m v n =
      let f = frame_in b gr g in
      let own = equations_in gr g in
      let h = fit-holds (problem_of b.equations b.lines f.places own (indices_of f.free) (row_count b.equations own)) (jacobian_at b.equations b.lines f.places own f.columns (length (indices_of f.free))) (start_in b f) x i t (rw (equations-back b.points gr g) at e) in
      all-within 1e-12 (values_at b.equations b.lines f.places own x) refl refl h v (among (rows_at b.equations b.lines f.places x) k v own m n)
