-- Worked: two builds that pass the checks before the fit and share a group and little else. The group is the points 3 and 4 with the
-- length of line 0 between them; the first build has a group before it, which the second has not, so that it is group 1 of the one
-- and group 0 of the other. Assumes nothing.
use Rattle.std.specs.Prelude.{ℕ, ◌⊎◌, ◌≡◌, refl, get_or, replicate}
use mathlib.Core.List.Memᴰ
use mathlib.Core.List.{[], ◌∷◌, flat_map, Memᴰ}
use Rattle.std.proofs.Common.{inl, inr, sym, ◌∙◌}
use Rattle.std.specs.Float.Ieee.{le, lt, eq, neg, of_bits}
use Rattle.floats.specs.Ops.{one}
use Rattle.groups.specs.Chains.{places_from}
use Rattle.groups.specs.Listed.{numbered_of, entered_of, point_of, list_point, list_points, group_of, list_equation, list_equations, groups_of}
use Rattle.groups.specs.Parents.{climb, root_of, join_to, join_all, self_at, joined}
use Rattle.groups.specs.Tied.{tie_to, tie_all, tied_in}
use Rattle.groups.specs.Touches.{touched_in}
use Rattle.loops.specs.Turns.{turns, up_to}
use Rattle.members.specs.Movable.{nowhere}
use Rattle.rows.specs.Column.{equation_at}
use Rattle.sketch.specs.Blank.{origin, point_in, blank_point, blank_active, sample}
use Rattle.sketch.specs.Check.{check_of}
use Rattle.sketch.specs.Involved.{line_at, lines_named}
use Rattle.sketch.specs.Rows.{more_rows, rows_of}
use Rattle.sketch.specs.declared.Active.{Active}
use Rattle.sketch.specs.declared.Build.{Build}
use Rattle.std.specs.Prelude.{Ok}
use Rattle.sketch.specs.declared.Equation.{Equation}
use Rattle.sketch.specs.declared.Line.{Line}
use Rattle.sketch.specs.declared.LineNo.{LineNo}
use Rattle.sketch.specs.declared.State.TheVariants.{Kept}
use Rattle.fit.specs.Own.{points_of_group, equations_of_group, SharesGroup}

abbrev line : ℕ → ℕ → Line
line p q = record { from = record { 0 = p }; to = record { 0 = q } }

abbrev length_is_one : ℕ → Active
length_is_one l = record { equation = Equation.Length (record { 0 = l }) one }

-- points 0 and 2 are a group too
abbrev first : Build
first = sample origin one (replicate 5 blank_point) (line 3 4 ∷ line 0 2 ∷ []) (length_is_one 0 ∷ length_is_one 1 ∷ []) []

-- no other group, no other line, and other points
abbrev second : Build
second = sample origin one (point_in Kept ∷ point_in Kept ∷ point_in Kept ∷ blank_point ∷ blank_point ∷ []) (line 3 4 ∷ []) (length_is_one 0 ∷ blank_active ∷ []) []

pub passing : (check_of first ≡ Ok tt) × (check_of second ≡ Ok tt)
unfolding check_of le lt eq neg of_bits flat_map more_rows rows_of
passing = (refl, refl)

grouped :
    (points_of_group first 1 ≡ 3 ∷ 4 ∷ [])
    × (points_of_group second 0 ≡ 3 ∷ 4 ∷ [])
    × (equations_of_group first 1 ≡ 0 ∷ [])
    × (equations_of_group second 0 ≡ 0 ∷ [])
unfolding places_from numbered_of entered_of point_of list_point list_points group_of list_equation list_equations groups_of climb root_of join_to join_all self_at joined tie_to tie_all tied_in touched_in turns up_to
grouped = (refl, refl, refl, refl)

same_point : (p : ℕ) → Memᴰ p (3 ∷ 4 ∷ []) → get_or first.points p nowhere ≡ get_or second.points p nowhere
same_point p m = go (Memᴰ.cases_cons m)
  where
    go : (p ≡ 3) ⊎ Memᴰ p (4 ∷ []) → get_or first.points p nowhere ≡ get_or second.points p nowhere
    go (inl e) = rw e
    go (inr n) = rw (Memᴰ.eq_of_singleton n)

same-equation : (k : ℕ) → Memᴰ k (0 ∷ []) → equation_at first.equations k ≡ equation_at second.equations k
same-equation k m = rw (Memᴰ.eq_of_singleton m)

same_line : (k : ℕ) → Memᴰ k (0 ∷ []) → (l : LineNo) → Memᴰ l (lines_named (equation_at first.equations k))
    → line_at first.lines l ≡ line_at second.lines l
same_line k m l n = rw (Memᴰ.eq_of_singleton (rw (Memᴰ.eq_of_singleton m) at n))

pub shared : SharesGroup first second 1 0
shared = record {
  centre = refl;
  size = refl;
  listed-points = grouped.0 ∙ sym grouped.1;
  listed-equations = grouped.2 ∙ sym grouped.3;
  points = rw grouped.0 same_point;
  equations = rw grouped.2 same-equation;
  lines = rw grouped.2 same_line;
}
