-- The text of a job (document 01, "The text"): lines `key=value`, each ended by a newline; no spaces.
use Rattle.std.specs.Prelude.{List, [], ◌∷◌, ◌++◌, ℕ}
use Rattle.phrases.specs.Kinds.{name_of}
use Rattle.sketch.specs.Kinds.{Sort, fields_of, kind_of, measured_fields}
use Rattle.spelling.specs.Letters.{ascii}
use Rattle.spelling.specs.Printed.{whole_text, float_text}
use Rattle.grammar.specs.Job.{Axis, axis_x, axis_y, Sign, plus, minus, Radius, by_point, plain, Touch, outside, inside, Content, Contents, Place, Standing, free, kept, placed, PointItem, LineItem, EquationItem, MeasureItem, Counts, counts_of, Job}

abbrev pub axis_text : Axis → List ℕ
axis_text axis_x = ascii "x"
axis_text axis_y = ascii "y"

abbrev pub sign_text : Sign → List ℕ
sign_text plus = ascii "+"
sign_text minus = ascii "-"

-- `p` and a point, or `v` and a float
abbrev pub radius_text : Radius → List ℕ
radius_text (by_point n) = ascii "p," ++ whole_text n
radius_text (plain b) = ascii "v," ++ float_text b

abbrev pub touch_text : Touch → List ℕ
touch_text outside = ascii "o"
touch_text (inside k) = sign_text k

abbrev pub content_text : (f : Sort) → Content f → List ℕ
content_text Sort.Point n = whole_text n
content_text Sort.Line n = whole_text n
content_text Sort.Value b = float_text b
content_text Sort.Axis a = axis_text a
content_text Sort.Side k = sign_text k
content_text Sort.Radius r = radius_text r
content_text Sort.Contact o = touch_text o

-- the fields, each with the comma that parts it from what stands before it
abbrev pub contents_text : (l : List Sort) → Contents l → List ℕ
contents_text [] v = []
contents_text (f ∷ l) v = ascii "," ++ content_text f v.0 ++ contents_text l v.1

-- The kind in lower case, then its fields. The names are one table, which the reader and this text cite: it stands below both
-- (crates/phrases/specs/Kinds.antt).
abbrev pub equation_text : EquationItem → List ℕ
equation_text e = name_of e.kind ++ contents_text (fields_of e.kind) e.contents

abbrev pub measure_text : MeasureItem → List ℕ
measure_text m = name_of (kind_of m.gauge) ++ contents_text (measured_fields m.gauge) m.contents

abbrev pub place_text : Place → List ℕ
place_text p = float_text p.x ++ ascii "," ++ float_text p.y

-- x,y,free or x,y,kept or x,y,at,x,y
abbrev pub standing_text : Standing → List ℕ
standing_text free = ascii "free"
standing_text kept = ascii "kept"
standing_text (placed p) = ascii "at," ++ place_text p

abbrev pub point_line_text : PointItem → List ℕ
point_line_text p = ascii "p=" ++ place_text p.start ++ ascii "," ++ standing_text p.standing ++ ascii "\n"

abbrev pub line_line_text : LineItem → List ℕ
line_line_text l = ascii "l=" ++ whole_text l.from ++ ascii "," ++ whole_text l.to ++ ascii "\n"

abbrev pub equation_line_text : EquationItem → List ℕ
equation_line_text e = ascii "e=" ++ equation_text e ++ ascii "\n"

abbrev pub measure_line_text : MeasureItem → List ℕ
measure_line_text m = ascii "m=" ++ measure_text m ++ ascii "\n"

-- one line for each item
abbrev pub each : {A : Type 0} → (A → List ℕ) → List A → List ℕ
each text [] = []
each text (a ∷ l) = text a ++ each text l

-- the four count lines
abbrev pub counts_text : Counts → List ℕ
counts_text n =
    ascii "points=" ++ whole_text n.points ++ ascii "\n"
    ++ ascii "lines=" ++ whole_text n.lines ++ ascii "\n"
    ++ ascii "equations=" ++ whole_text n.equations ++ ascii "\n"
    ++ ascii "measures=" ++ whole_text n.measures ++ ascii "\n"

-- what comes after them
abbrev pub rest_text : Job → List ℕ
rest_text j =
    ascii "centre=" ++ place_text j.centre ++ ascii "\n"
    ++ ascii "size=" ++ float_text j.size ++ ascii "\n"
    ++ each point_line_text j.points
    ++ each line_line_text j.lines
    ++ each equation_line_text j.equations
    ++ each measure_line_text j.measures

abbrev pub job_text : Job → List ℕ
job_text j = counts_text (counts_of j) ++ rest_text j
