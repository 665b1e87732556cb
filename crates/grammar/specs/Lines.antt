-- A line of each of the 21 kinds and of each of the five measures: its letters, and what it means. They compute. By `reads-form`
-- (proofs/Theorem.antt) that is what the reader takes it for, and by `one-reading` nothing else.
use Rattle.std.specs.Prelude.{◌≡◌, refl, ℕ}
use Prim.Native.String.{String}
use Rattle.std.specs.Float.Ieee.{neg}
use Rattle.floats.specs.Ops.{one, two}
use Rattle.sketch.specs.Kinds.{fields_of, measured_fields}
use Rattle.sketch.specs.Made.{point_no, line_no}
use Rattle.sketch.specs.declared.Contact.{Contact}
use Rattle.sketch.specs.declared.Equation.{Equation}
use Rattle.sketch.specs.declared.Gauge.{Gauge}
use Rattle.sketch.specs.declared.Kind.{Kind}
use Rattle.sketch.specs.declared.Measure.{Measure}
use Rattle.sketch.specs.declared.PointNo.{PointNo}
use Rattle.sketch.specs.declared.LineNo.{LineNo}
use Rattle.sketch.specs.declared.Rad.{Rad}
use Rattle.spelling.specs.Letters.{ascii}
use Rattle.spelling.specs.Printed.{decimal, hexadecimal, hex_digit}
use Rattle.grammar.specs.Job.{axis_x, axis_y, plus, minus, by_point, plain, outside, inside, Contents, EquationItem, MeasureItem}
use Rattle.grammar.specs.Meaning.{active_of, measured_of}
use Rattle.grammar.specs.Printed.{equation_line_text, measure_line_text}

-- the fields one after another
infixr 20 ◌&◌
abbrev ◌&◌ : {A B : Type 0} → A → B → A × B
a & b = (a, b)

-- an equation of a kind is written so, and means that
abbrev EquationLine : (k : Kind) → Contents (fields_of k) → String → Equation → Type 0
EquationLine k c s e = let i : EquationItem = record { kind = k; contents = c } in (equation_line_text i ≡ ascii s) × (active_of i ≡ record { equation = e })

abbrev MeasureLine : (g : Gauge) → Contents (measured_fields g) → String → Measure → Type 0
MeasureLine g c s m = let i : MeasureItem = record { gauge = g; contents = c } in (measure_line_text i ≡ ascii s) × (measured_of i ≡ record { measure = m })

abbrev P : ℕ → PointNo
P n = point_no n

abbrev L : ℕ → LineNo
L n = line_no n

-- the patterns of 1.0 and 2.0
abbrev one_bits : ℕ
one_bits = 0x3ff0_0000_0000_0000

abbrev two_bits : ℕ
two_bits = 0x4000_0000_0000_0000

kinds :
    EquationLine Kind.Coincident (0 & 1 & tt) "e=coincident,0,1\n" (Equation.Coincident (P 0) (P 1))
    × EquationLine Kind.Level (0 & 1 & axis_y & tt) "e=level,0,1,y\n" (Equation.Level (P 0) (P 1) 1)
    × EquationLine Kind.Parallel (0 & 1 & tt) "e=parallel,0,1\n" (Equation.Parallel (L 0) (L 1))
    × EquationLine Kind.Perpendicular (0 & 1 & tt) "e=perpendicular,0,1\n" (Equation.Perpendicular (L 0) (L 1))
    × EquationLine Kind.Collinear (0 & 1 & tt) "e=collinear,0,1\n" (Equation.Collinear (L 0) (L 1))
    × EquationLine Kind.Equal (0 & 1 & tt) "e=equal,0,1\n" (Equation.Equal (L 0) (L 1))
    × EquationLine Kind.Held tt "e=held\n" Equation.Held
    × EquationLine Kind.Distance (0 & 1 & two_bits & tt) "e=distance,0,1,4000000000000000\n" (Equation.Distance (P 0) (P 1) two)
    × EquationLine Kind.AxisDistance (0 & 1 & axis_x & two_bits & minus & tt) "e=axisdistance,0,1,x,4000000000000000,-\n" (Equation.AxisDistance (P 0) (P 1) 0 two (neg one))
    × EquationLine Kind.Length (0 & two_bits & tt) "e=length,0,4000000000000000\n" (Equation.Length (L 0) two)
    × EquationLine Kind.PointLine (0 & 1 & two_bits & plus & tt) "e=pointline,0,1,4000000000000000,+\n" (Equation.PointLine (P 0) (L 1) two one)
    × EquationLine Kind.ArcEnds (0 & 1 & 2 & tt) "e=arcends,0,1,2\n" (Equation.ArcEnds (P 0) (P 1) (P 2))
    × EquationLine Kind.Radius (0 & 1 & two_bits & tt) "e=radius,0,1,4000000000000000\n" (Equation.Radius (P 0) (P 1) two)
    × EquationLine Kind.LineCircle (0 & 1 & by_point 2 & plus & tt) "e=linecircle,0,1,p,2,+\n" (Equation.LineCircle (L 0) (P 1) (Rad.Point (P 2)) one)
    × EquationLine Kind.CircleCircle (0 & by_point 2 & 1 & plain one_bits & outside & tt) "e=circlecircle,0,p,2,1,v,3ff0000000000000,o\n" (Equation.CircleCircle (P 0) (Rad.Point (P 2)) (P 1) (Rad.Value one) Contact.Outside)
    × EquationLine Kind.LineArcAt (0 & 1 & 2 & tt) "e=linearcat,0,1,2\n" (Equation.LineArcAt (L 0) (P 1) (P 2))
    × EquationLine Kind.ArcArcAt (0 & 1 & 2 & tt) "e=arcarcat,0,1,2\n" (Equation.ArcArcAt (P 0) (P 1) (P 2))
    × EquationLine Kind.Midpoint (0 & 1 & tt) "e=midpoint,0,1\n" (Equation.Midpoint (P 0) (L 1))
    × EquationLine Kind.ArcMidpoint (0 & 1 & 2 & 3 & tt) "e=arcmidpoint,0,1,2,3\n" (Equation.ArcMidpoint (P 0) (P 1) (P 2) (P 3))
    × EquationLine Kind.Symmetric (0 & 1 & 2 & tt) "e=symmetric,0,1,2\n" (Equation.Symmetric (P 0) (P 1) (L 2))
    × EquationLine Kind.EqualRadius (0 & 1 & 2 & 3 & tt) "e=equalradius,0,1,2,3\n" (Equation.EqualRadius (P 0) (P 1) (P 2) (P 3))
unfolding decimal hexadecimal hex_digit
kinds =
    ((refl, refl), (refl, refl), (refl, refl), (refl, refl), (refl, refl), (refl, refl), (refl, refl), (refl, refl), (refl, refl), (refl, refl), (refl, refl), (refl, refl), (refl, refl), (refl, refl), (refl, refl), (refl, refl), (refl, refl), (refl, refl), (refl, refl), (refl, refl), (refl, refl))

-- a circle inside another
inside-it : EquationLine Kind.CircleCircle (0 & by_point 2 & 1 & by_point 3 & inside plus & tt) "e=circlecircle,0,p,2,1,p,3,+\n" (Equation.CircleCircle (P 0) (Rad.Point (P 2)) (P 1) (Rad.Point (P 3)) (Contact.Inside one))
unfolding decimal
inside-it = (refl, refl)

-- measures omit the value
measures :
    MeasureLine Gauge.Distance (0 & 1 & tt) "m=distance,0,1\n" (Measure.Distance (P 0) (P 1))
    × MeasureLine Gauge.AxisDistance (0 & 1 & axis_x & minus & tt) "m=axisdistance,0,1,x,-\n" (Measure.AxisDistance (P 0) (P 1) 0 (neg one))
    × MeasureLine Gauge.Length (0 & tt) "m=length,0\n" (Measure.Length (L 0))
    × MeasureLine Gauge.PointLine (0 & 1 & plus & tt) "m=pointline,0,1,+\n" (Measure.PointLine (P 0) (L 1) one)
    × MeasureLine Gauge.Radius (0 & 1 & tt) "m=radius,0,1\n" (Measure.Radius (P 0) (P 1))
unfolding decimal
measures = ((refl, refl), (refl, refl), (refl, refl), (refl, refl), (refl, refl))
