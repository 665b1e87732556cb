-- equations.rs, `residuals`: the rows of each kind, in the Rust's order and with the Rust's expressions. Each definition
-- follows the arm of its name; `at` is where a point is, `line` the ends of a line.
use Rattle.std.specs.Prelude.{ℕ, cond, List, [], ◌∷◌, ◌++◌, eqb, Float}
use Rattle.std.specs.Float.Ieee.{neg}
use Rattle.floats.specs.Ops.{◌⊕◌, ◌⊖◌, ◌⊗◌, zero⁺, one, half}
use Rattle.plane.specs.Vectors.{sub_of, neg_of, dot_of, cross_of, unit_from_of, across_of}
use Rattle.plane.specs.declared.Dir.{Dir}
use Rattle.plane.specs.declared.Vec2.{Vec2}
use Rattle.sketch.specs.Involved.{line_at}
use Rattle.sketch.specs.declared.Contact.{Contact}
use Rattle.sketch.specs.declared.Equation.{Equation}
use Rattle.sketch.specs.declared.Line.{Line}
use Rattle.sketch.specs.declared.LineNo.{LineNo}
use Rattle.sketch.specs.declared.PointNo.{PointNo}
use Rattle.sketch.specs.declared.Rad.{Rad}
use Rattle.rows.specs.Located.{dir_of}
use Rattle.rows.specs.Entries.{Row, emit, entry}
use Rattle.rows.specs.declared.Entry.{Entry}

-- ---- small vectors that the arms write out

abbrev pub vec : Float → Float → Vec2
vec x y = record { x = x; y = y }

-- where a gradient does not ask where its points are
abbrev pub nowhere : PointNo → Vec2
nowhere p = vec zero⁺ zero⁺

-- [v[1], -v[0]]
abbrev pub turned_down : Vec2 → Vec2
turned_down v = vec v.y (neg v.x)

-- [-v[1], v[0]]
abbrev pub turned_up : Vec2 → Vec2
turned_up v = vec (neg v.y) v.x

-- [side * v[1], -side * v[0]]
abbrev pub side_down : Float → Vec2 → Vec2
side_down side v = vec (side ⊗ v.y) (neg side ⊗ v.x)

-- [-side * v[1], side * v[0]]
abbrev pub side_up : Float → Vec2 → Vec2
side_up side v = vec (neg side ⊗ v.y) (side ⊗ v.x)

-- [k * v[0], k * v[1]]
abbrev pub times : Float → Vec2 → Vec2
times k v = vec (k ⊗ v.x) (k ⊗ v.y)

-- [a[0] + b[0], a[1] + b[1]]
abbrev pub plus : Vec2 → Vec2 → Vec2
plus a b = vec (a.x ⊕ b.x) (a.y ⊕ b.y)

-- v[axis]: 0 for X, 1 for Y
abbrev pub along_axis : ℕ → Vec2 → Float
along_axis axis v = cond (eqb axis 0) v.x v.y

-- the Rust's d with d[axis] = v
abbrev pub on_axis : ℕ → Float → Vec2
on_axis axis v = cond (eqb axis 0) (vec v zero⁺) (vec zero⁺ v)

-- ---- the entries that arms share

-- `through1`, the ends of a line given the gradient with respect to its direction. Its gb is what `across` is of d.
abbrev pub through1_of : Line → Dir → Vec2 → List Entry
through1_of l d gu = entry l.to (across_of d.u gu d.len) ∷ entry l.from (neg_of (across_of d.u gu d.len)) ∷ []

-- `through2`
abbrev pub through2_of : Line → Dir → Vec2 → Line → Dir → Vec2 → List Entry
through2_of i di gi j dj gj = through1_of i di gi ++ through1_of j dj gj

-- `radius`: the radius around c, and its gradient times `scale`
abbrev pub radius_of : (PointNo → Vec2) → Rad → PointNo → Float
radius_of at (Rad.Point p) c = (unit_from_of (at c) (at p)).len
radius_of at (Rad.Value v) c = v

abbrev pub radius_entries : (PointNo → Vec2) → Rad → PointNo → Float → List Entry
radius_entries at (Rad.Point p) c scale =
    entry p (times scale (unit_from_of (at c) (at p)).u) ∷ entry c (times (neg scale) (unit_from_of (at c) (at p)).u) ∷ []
radius_entries at (Rad.Value v) c scale = []

-- the signs s1 and s2 of two radii in contact
abbrev pub first_sign : Contact → Float
first_sign Contact.Outside = neg one
first_sign (Contact.Inside s) = neg s

abbrev pub second_sign : Contact → Float
second_sign Contact.Outside = neg one
second_sign (Contact.Inside s) = s

-- from a to the middle of p and q
abbrev pub middle_of : (PointNo → Vec2) → PointNo → PointNo → PointNo → Vec2
middle_of at p q a = sub_of (times half (plus (at p) (at q))) (at a)

-- ---- the arms; a line comes as its ends

module _ (at : PointNo → Vec2) where
  abbrev dir : Line → Dir
  dir l = dir_of at l

  abbrev pub coincident_of : PointNo → PointNo → List Row
  coincident_of a b =
      emit ((at a).x ⊖ (at b).x) (entry a (vec one zero⁺) ∷ entry b (vec (neg one) zero⁺) ∷ [])
      ∷ emit ((at a).y ⊖ (at b).y) (entry a (vec zero⁺ one) ∷ entry b (vec zero⁺ (neg one)) ∷ [])
      ∷ []

  abbrev pub level_kind_of : PointNo → PointNo → ℕ → List Row
  level_kind_of a b axis =
      emit (along_axis axis (at b) ⊖ along_axis axis (at a)) (entry a (neg_of (on_axis axis one)) ∷ entry b (on_axis axis one) ∷ []) ∷ []

  abbrev pub parallel_of : Line → Line → List Row
  parallel_of i j =
      let di = dir i in
      let dj = dir j in
      emit (cross_of di.u dj.u) (through2_of i di (turned_down dj.u) j dj (turned_up di.u)) ∷ []

  abbrev pub perpendicular_of : Line → Line → List Row
  perpendicular_of i j =
      let di = dir i in
      let dj = dir j in
      emit (dot_of di.u dj.u) (through2_of i di dj.u j dj di.u) ∷ []

  abbrev pub collinear_of : Line → Line → List Row
  collinear_of i j =
      let di = dir i in
      let dj = dir j in
      let a = i.from in
      let c = j.from in
      let q = sub_of (at c) (at a) in
      let along = turned_up di.u in
      emit (cross_of di.u dj.u) (through2_of i di (turned_down dj.u) j dj along)
      ∷ emit (cross_of di.u q) (through1_of i di (turned_down q) ++ entry c along ∷ entry a (neg_of along) ∷ [])
      ∷ []

  abbrev pub equal_of : Line → Line → List Row
  equal_of i j =
      let di = dir i in
      let dj = dir j in
      emit (di.len ⊖ dj.len)
      (entry i.to di.u ∷ entry i.from (neg_of di.u) ∷ entry j.to (neg_of dj.u) ∷ entry j.from dj.u ∷ [])
      ∷ []

  abbrev pub distance_of : PointNo → PointNo → Float → List Row
  distance_of a b value =
      let d = unit_from_of (at a) (at b) in
      emit (d.len ⊖ value) (entry b d.u ∷ entry a (neg_of d.u) ∷ []) ∷ []

  abbrev pub axis_distance_of : PointNo → PointNo → ℕ → Float → Float → List Row
  axis_distance_of a b axis value side =
      let d = on_axis axis side in
      emit (side ⊗ (along_axis axis (at b) ⊖ along_axis axis (at a)) ⊖ value) (entry b d ∷ entry a (neg_of d) ∷ []) ∷ []

  -- one of the two turns of the Rust's loop over the axes; -0.5 times a zero is -0.0
  abbrev midpoint_row : PointNo → Line → ℕ → Row
  midpoint_row p l i =
      let d = on_axis i one in
      let less = times (neg half) d in
      emit (along_axis i (at p) ⊖ half ⊗ (along_axis i (at l.from) ⊕ along_axis i (at l.to)))
      (entry p d ∷ entry l.from less ∷ entry l.to less ∷ [])

  abbrev pub midpoint_of : PointNo → Line → List Row
  midpoint_of p l = midpoint_row p l 0 ∷ midpoint_row p l 1 ∷ []

  abbrev pub arc_midpoint_of : PointNo → PointNo → PointNo → PointNo → List Row
  arc_midpoint_of p c f t =
      let df = unit_from_of (at c) (at f) in
      let dp = unit_from_of (at c) (at p) in
      let da = unit_from_of (at f) (at p) in
      let db = unit_from_of (at t) (at p) in
      emit (df.len ⊖ dp.len) (entry f df.u ∷ entry c (sub_of dp.u df.u) ∷ entry p (neg_of dp.u) ∷ [])
      ∷ emit (da.len ⊖ db.len) (entry p (sub_of da.u db.u) ∷ entry f (neg_of da.u) ∷ entry t db.u ∷ [])
      ∷ []

  abbrev pub symmetric_of : PointNo → PointNo → Line → List Row
  symmetric_of p q l =
      let a = l.from in
      let d = dir l in
      let m = middle_of at p q a in
      let toward = turned_up d.u in
      let w = sub_of (at q) (at p) in
      emit (cross_of d.u m)
      (through1_of l d (turned_down m) ++ entry p (times half toward) ∷ entry q (times half toward) ∷ entry a (neg_of toward) ∷ [])
      ∷ emit (dot_of d.u w) (through1_of l d w ++ entry q d.u ∷ entry p (neg_of d.u) ∷ [])
      ∷ []

  abbrev pub equal_radius_of : PointNo → PointNo → PointNo → PointNo → List Row
  equal_radius_of c₁ f₁ c₂ f₂ =
      let d₁ = unit_from_of (at c₁) (at f₁) in
      let d₂ = unit_from_of (at c₂) (at f₂) in
      emit (d₁.len ⊖ d₂.len) (entry f₁ d₁.u ∷ entry c₁ (neg_of d₁.u) ∷ entry f₂ (neg_of d₂.u) ∷ entry c₂ d₂.u ∷ []) ∷ []

  abbrev pub length_of : Line → Float → List Row
  length_of l value =
      let d = dir l in
      emit (d.len ⊖ value) (entry l.to d.u ∷ entry l.from (neg_of d.u) ∷ []) ∷ []

  abbrev pub point_line_of : PointNo → Line → Float → Float → List Row
  point_line_of p l value side =
      let a = l.from in
      let d = dir l in
      let q = sub_of (at p) (at a) in
      let toward = side_up side d.u in
      emit (side ⊗ cross_of d.u q ⊖ value) (through1_of l d (side_down side q) ++ entry p toward ∷ entry a (neg_of toward) ∷ []) ∷ []

  abbrev pub arc_ends_of : PointNo → PointNo → PointNo → List Row
  arc_ends_of c f t =
      let df = unit_from_of (at c) (at f) in
      let dt = unit_from_of (at c) (at t) in
      emit (df.len ⊖ dt.len) (entry f df.u ∷ entry c (sub_of dt.u df.u) ∷ entry t (neg_of dt.u) ∷ []) ∷ []

  abbrev pub radius_kind_of : PointNo → PointNo → Float → List Row
  radius_kind_of c f value =
      let d = unit_from_of (at c) (at f) in
      emit (d.len ⊖ value) (entry f d.u ∷ entry c (neg_of d.u) ∷ []) ∷ []

  abbrev pub line_circle_of : Line → PointNo → Rad → Float → List Row
  line_circle_of l c rad side =
      let a = l.from in
      let d = dir l in
      let q = sub_of (at c) (at a) in
      let toward = side_up side d.u in
      emit (side ⊗ cross_of d.u q ⊖ radius_of at rad c)
      (through1_of l d (side_down side q) ++ entry c toward ∷ entry a (neg_of toward) ∷ radius_entries at rad c (neg one))
      ∷ []

  abbrev pub circle_circle_of : PointNo → Rad → PointNo → Rad → Contact → List Row
  circle_circle_of c₁ r₁ c₂ r₂ contact =
      let d = unit_from_of (at c₁) (at c₂) in
      let s₁ = first_sign contact in
      let s₂ = second_sign contact in
      emit (d.len ⊕ s₁ ⊗ radius_of at r₁ c₁ ⊕ s₂ ⊗ radius_of at r₂ c₂)
      (entry c₂ d.u ∷ entry c₁ (neg_of d.u) ∷ radius_entries at r₁ c₁ s₁ ++ radius_entries at r₂ c₂ s₂)
      ∷ []

  abbrev pub line_arc_at_of : Line → PointNo → PointNo → List Row
  line_arc_at_of l c p =
      let d = dir l in
      let w = unit_from_of (at c) (at p) in
      let gp = across_of w.u d.u w.len in
      emit (dot_of d.u w.u) (through1_of l d w.u ++ entry p gp ∷ entry c (neg_of gp) ∷ []) ∷ []

  abbrev pub arc_arc_at_of : PointNo → PointNo → PointNo → List Row
  arc_arc_at_of c₁ c₂ p =
      let w₁ = unit_from_of (at c₁) (at p) in
      let w₂ = unit_from_of (at c₂) (at p) in
      let g₁ = across_of w₁.u (turned_down w₂.u) w₁.len in
      let g₂ = across_of w₂.u (turned_up w₁.u) w₂.len in
      emit (cross_of w₁.u w₂.u) (entry p (plus g₁ g₂) ∷ entry c₁ (neg_of g₁) ∷ entry c₂ (neg_of g₂) ∷ []) ∷ []

-- ---- all of them

module _ (ls : List Line) (at : PointNo → Vec2) where
  abbrev line : LineNo → Line
  line l = line_at ls l

  unfoldable pub rows_of_equation : Equation → List Row
  rows_of_equation (Equation.Coincident a b) = coincident_of at a b
  rows_of_equation (Equation.Level a b axis) = level_kind_of at a b axis
  rows_of_equation (Equation.Parallel i j) = parallel_of at (line i) (line j)
  rows_of_equation (Equation.Perpendicular i j) = perpendicular_of at (line i) (line j)
  rows_of_equation (Equation.Collinear i j) = collinear_of at (line i) (line j)
  rows_of_equation (Equation.Equal i j) = equal_of at (line i) (line j)
  rows_of_equation Equation.Held = []
  rows_of_equation (Equation.Distance a b value) = distance_of at a b value
  rows_of_equation (Equation.AxisDistance a b axis value side) = axis_distance_of at a b axis value side
  rows_of_equation (Equation.Length l value) = length_of at (line l) value
  rows_of_equation (Equation.PointLine p l value side) = point_line_of at p (line l) value side
  rows_of_equation (Equation.ArcEnds c f t) = arc_ends_of at c f t
  rows_of_equation (Equation.Radius c f value) = radius_kind_of at c f value
  rows_of_equation (Equation.LineCircle l c rad side) = line_circle_of at (line l) c rad side
  rows_of_equation (Equation.CircleCircle c₁ r₁ c₂ r₂ contact) = circle_circle_of at c₁ r₁ c₂ r₂ contact
  rows_of_equation (Equation.LineArcAt l c p) = line_arc_at_of at (line l) c p
  rows_of_equation (Equation.ArcArcAt c₁ c₂ p) = arc_arc_at_of at c₁ c₂ p
  rows_of_equation (Equation.Midpoint p l) = midpoint_of at p (line l)
  rows_of_equation (Equation.ArcMidpoint p c f t) = arc_midpoint_of at p c f t
  rows_of_equation (Equation.Symmetric p q l) = symmetric_of at p q (line l)
  rows_of_equation (Equation.EqualRadius c₁ f₁ c₂ f₂) = equal_radius_of at c₁ f₁ c₂ f₂
