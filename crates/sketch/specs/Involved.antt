-- The points an equation touches, in the Rust's order (equations.rs, `involved`): those of its fields one after another, of a line both
-- ends. Held touches none. And the lines that it names.
use Rattle.std.specs.Prelude.{List, [], ◌∷◌, ◌++◌, length, get_or, take}
use Rattle.sketch.specs.Fields.{Field, point, line, value, size, axis, side, radius, contact, equation_fields}
use Rattle.sketch.specs.declared.Equation.{Equation}
use Rattle.sketch.specs.declared.Line.{Line}
use Rattle.sketch.specs.declared.LineNo.{LineNo}
use Rattle.sketch.specs.declared.PointNo.{PointNo}
use Rattle.sketch.specs.declared.Rad.{Rad}
use Rattle.sketch.specs.declared.Touched.{Touched}

-- what stands where nothing is: point 0, and a line from it to itself
abbrev pub no_point : PointNo
no_point = record { 0 = 0 }

abbrev pub no_line : Line
no_line = record { from = no_point; to = no_point }

abbrev pub line_at : List Line → LineNo → Line
line_at ls l = get_or ls l.0 no_line

-- the Rust's `l` and `r`
abbrev pub ends : List Line → LineNo → List PointNo
ends ls l = (line_at ls l).from ∷ (line_at ls l).to ∷ []

abbrev pub on_circle : Rad → List PointNo
on_circle (Rad.Point p) = p ∷ []
on_circle (Rad.Value v) = []

abbrev pub points_in : List Line → Field → List PointNo
points_in ls (point p) = p ∷ []
points_in ls (line l) = ends ls l
points_in ls (value v) = []
points_in ls (size v) = []
points_in ls (axis a) = []
points_in ls (side s) = []
points_in ls (radius r) = on_circle r
points_in ls (contact k) = []

abbrev pub points_among : List Line → List Field → List PointNo
points_among ls [] = []
points_among ls (f ∷ fs) = points_in ls f ++ points_among ls fs

abbrev pub involved_of : List Line → Equation → List PointNo
involved_of ls e = points_among ls (equation_fields e)

-- the numbers of the lines among the fields
abbrev pub lines_in : Field → List LineNo
lines_in (point p) = []
lines_in (line l) = l ∷ []
lines_in (value v) = []
lines_in (size v) = []
lines_in (axis a) = []
lines_in (side s) = []
lines_in (radius r) = []
lines_in (contact k) = []

abbrev pub lines_among : List Field → List LineNo
lines_among [] = []
lines_among (f ∷ fs) = lines_in f ++ lines_among fs

-- the lines that an equation names
abbrev pub lines_named : Equation → List LineNo
lines_named e = lines_among (equation_fields e)

-- a list of points as the code hands it out: at most four points, and point 0 in the places past them
abbrev pub touched_of : List PointNo → Touched
touched_of ps = record {
  points = get_or ps 0 no_point ∷ get_or ps 1 no_point ∷ get_or ps 2 no_point ∷ get_or ps 3 no_point ∷ [];
  count = length ps;
}

-- the points that it holds: as many as the count says, and no more than there are places
abbrev pub named_by : Touched → List PointNo
named_by t = take t.count t.points
