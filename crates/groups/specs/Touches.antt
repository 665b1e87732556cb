-- The points that an equation touches, by number.
use Rattle.std.specs.Prelude.{ℕ, List, map, get_or}
use Rattle.sketch.specs.Blank.{blank_active}
use Rattle.sketch.specs.Involved.{involved_of}
use Rattle.sketch.specs.Parts.{equations_of}
use Rattle.sketch.specs.declared.Active.{Active}
use Rattle.sketch.specs.declared.Build.{Build}
use Rattle.sketch.specs.declared.Line.{Line}
use Rattle.sketch.specs.declared.PointNo.{PointNo}

abbrev pub number : PointNo → ℕ
number p = p.0

-- equation k of the list es
unfoldable pub touched_in : List Active → List Line → ℕ → List ℕ
touched_in es ls k = map number (involved_of ls (get_or es k blank_active).equation)

-- equation k of a build
abbrev pub touched_by : Build → ℕ → List ℕ
touched_by b = touched_in (equations_of b) b.lines
