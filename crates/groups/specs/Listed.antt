-- equations.rs, `groups`, its second half: from the roots to the groups. 40 stands for the Rust's `usize::MAX` in `index`, and
-- says of a point or an equation that it is in no group.
use Rattle.std.specs.Prelude.{ℕ, ◌+◌, Bool, true, false, cond, List, [], ◌∷◌, eqb, length, get_or, set, replicate}
use Rattle.groups.specs.Touches.{touched_by}
use Rattle.loops.specs.Turns.{up_to}
use Rattle.sketch.specs.Parts.{equations_of}
use Rattle.sketch.specs.declared.Build.{Build}
use Rattle.groups.specs.Parents.{Gives, root_of, alone, joined}
use Rattle.groups.specs.Tied.{tied_of}
use Rattle.groups.specs.declared.Grouping.{Grouping}
use Rattle.groups.specs.declared.listing.Listing.{Listing}

abbrev pub nothing : Listing
nothing = record { index = replicate 40 40; of_point = replicate 40 40; count = 0 }

-- a root that has no number gets the next
unfoldable pub numbered_of : ℕ → Listing → Listing
numbered_of r s =
    cond (eqb (get_or s.index r 40) 40)
    (record { index = set s.index r s.count; of_point = s.of_point; count = s.count + 1 })
    s

-- the point q goes to the group of its root r
unfoldable pub entered_of : ℕ → ℕ → Listing → Listing
entered_of r q s =
    let n = numbered_of r s in
    record { index = n.index; of_point = set n.of_point q (get_or n.index r 40); count = n.count }

-- one turn of `for p in (0..n).filter(|&p| tied[p])`
unfoldable pub point_of : Bool → ℕ → Gives Listing → Gives Listing
point_of true q g = let r = root_of g.parents q in record { parents = r.parents; answer = entered_of r.answer q g.answer }
point_of false q g = g

unfoldable pub list_point : List Bool → ℕ → Gives Listing → Gives Listing
list_point tied q g = point_of (get_or tied q false) q g

unfoldable pub list_points : List Bool → List ℕ → Gives Listing
list_points tied ps = up_to 40 0 (list_point tied) (record { parents = ps; answer = nothing })

-- the group of an equation: its owner's, the first point's
unfoldable pub group_of : List ℕ → List ℕ → List ℕ → Gives ℕ
group_of index [] ps = record { parents = ps; answer = 40 }
group_of index (o ∷ pts) ps = let r = root_of ps o in record { parents = r.parents; answer = get_or index r.answer 40 }

-- one turn of `for (k, o) in owner.iter().enumerate()`
unfoldable pub list_equation : List ℕ → (ℕ → List ℕ) → ℕ → Gives (List ℕ) → Gives (List ℕ)
list_equation index t k g =
    let r = group_of index (t k) g.parents in
    record { parents = r.parents; answer = set g.answer k r.answer }

unfoldable pub list_equations : List ℕ → (ℕ → List ℕ) → ℕ → List ℕ → Gives (List ℕ)
list_equations index t n ps = up_to n 0 (list_equation index t) (record { parents = ps; answer = replicate 40 40 })

-- `groups`, of n equations of which equation k touches the points t k
unfoldable pub groups_of : (ℕ → List ℕ) → ℕ → Grouping
groups_of t n =
    let points = list_points (tied_of t n) (joined t n alone) in
    let equations = list_equations points.answer.index t n points.parents in
    record {
      of_point = points.answer.of_point;
      of_equation = equations.answer;
      count = points.answer.count;
    }

-- the groups of a build
abbrev pub grouping_of : Build → Grouping
grouping_of b = groups_of (touched_by b) (length (equations_of b))
