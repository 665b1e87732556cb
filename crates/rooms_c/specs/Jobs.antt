-- The library call on the build of a text, and tables laid in lent places.
use Rattle.std.specs.Prelude.{ℕ, List, ◌++◌, ◌≡◌, Float, length, take, drop, Result, Ok, Err}
use Rattle.groups.specs.declared.Grouping.{Grouping}
use Rattle.job.specs.Promise.{answer_after, output_after, area_after, verdict}
use Rattle.sketch.specs.Blank.{empty_build}
use Rattle.sketch.specs.Check.{number_of}
use Rattle.sketch.specs.declared.Build.{Build}
use Rattle.sketch.specs.declared.Ending.{Ending}
use Rattle.text.specs.Reader.{read_of}

-- the build of a text; where only its groups, rows, levels, measures or worst are asked, a text that is refused is a build with nothing in it
abbrev pub built : Result Build Ending → Build
built (Ok b) = b
built (Err e) = empty_build

-- a table in lent places, as far as there are any
abbrev pub laid_over : List ℕ → List ℕ → List ℕ
laid_over table s = take (length s) table ++ drop (length table) s

-- the count of groups, and the group of each point and of each equation
pub record Grouped (g : Grouping) (points equations points' equations' : List ℕ) (n : ℕ) : Type 0 where
  pub count : n ≡ g.count
  pub of-points : points' ≡ laid_over g.of_point points
  pub of-equations : equations' ≡ laid_over g.of_equation equations

-- document 01's number, and what is left in each lent place; a text that is not read leaves all of it alone
module _ (out p q r : List Float) where
  abbrev pub number_by : Result Build Ending → ℕ
  number_by (Ok b) = number_of (answer_after b (verdict b out p q r)).ending
  number_by (Err e) = number_of e

  abbrev pub output_by : Result Build Ending → List Float
  output_by (Ok b) = output_after b out (verdict b out p q r)
  output_by (Err e) = out

  abbrev pub area_by : List Float → Result Build Ending → List Float
  area_by a (Ok b) = area_after a (verdict b out p q r)
  area_by a (Err e) = a

  pub record SolvesBy (t : Result Build Ending) (out' p' q' r' : List Float) (n : ℕ) : Type 0 where
    pub number : n ≡ number_by t
    pub output : out' ≡ output_by t
    pub first : p' ≡ area_by p t
    pub second : q' ≡ area_by q t
    pub third : r' ≡ area_by r t

  abbrev pub SolvesText : List ℕ → List Float → List Float → List Float → List Float → ℕ → Type 0
  SolvesText s = SolvesBy (read_of s)
