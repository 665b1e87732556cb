-- Each kind of equation and of measure is read exactly as it is written: its name, and then its fields. Assumes nothing.
use Prim.Native.Nat.{ℕ}
use mathlib.Core.Bool.{Bool, true, false, cond, ◌||◌}
use mathlib.Core.List.{List, [], ◌∷◌, ◌++◌}
use mathlib.Core.Path.{◌≡◌, refl, subst}
use borrow.Author.Tests.{eqb-true}
use lib.Dec.{eqb}
use Rattle.std.proofs.Common.{Some}
use Rattle.spelling.proofs.Forms.{Reads, parted, then-reads, mean-reads, as-reads, named_in, named-reads}
use Rattle.spelling.proofs.Steps.{never, starts}
use Rattle.phrases.specs.Equations.{row_equation, fields_at, equation_at}
use Rattle.phrases.specs.Kinds.{name_of, kinds, kind_at, gauge_name, gauges, gauge_at}
use Rattle.phrases.specs.Measures.{row_measure, gauged_at, measure_at}
use Rattle.sketch.specs.Kinds.{fields_of, measured_fields}
use Rattle.sketch.specs.Made.{equation_of, measure_of}
use Rattle.sketch.specs.declared.Gauge.{Gauge}
use Rattle.sketch.specs.declared.Kind.{Kind}
use Rattle.grammar.specs.Job.{Contents, ContentsFit, EquationFits, MeasureFits}
use Rattle.grammar.specs.Meaning.{means_of, active_of, measured_of}
use Rattle.grammar.specs.Printed.{contents_text, equation_text, measure_text}
use Rattle.grammar.proofs.FieldForms.{fields-part, fields-reads}

-- a name that goes on with a letter is another name
no-letter : (b : ℕ) (w t : List ℕ) → eqb 44 b ≡ false → eqb 10 b ≡ false → parted t ≡ true → starts (b ∷ w) t ≡ false
no-letter b w [] p q h = refl
no-letter b w (x ∷ t) p q h = go (eqb x 44) (eqb x 10) refl refl h
  where
    go : (u v : Bool) → eqb x 44 ≡ u → eqb x 10 ≡ v → u || v ≡ true → cond (eqb x b) (starts w t) false ≡ false
    go true v e f k = rw (eqb-true x 44 e, p)
    go false true e f k = rw (eqb-true x 10 f, q)
    go false false e f k = absurd (never _ refl k)

found : (k : Kind) (t : List ℕ) → parted t ≡ true → named_in name_of kinds (name_of k ++ t) ≡ Some k
found Kind.Coincident t h = refl
found Kind.Level t h = refl
found Kind.Parallel t h = refl
found Kind.Perpendicular t h = refl
found Kind.Collinear t h = refl
found Kind.Equal t h = rw (no-letter 114 (97 ∷ 100 ∷ 105 ∷ 117 ∷ 115 ∷ []) t refl refl h)
found Kind.Held t h = refl
found Kind.Distance t h = refl
found Kind.AxisDistance t h = refl
found Kind.Length t h = refl
found Kind.PointLine t h = refl
found Kind.ArcEnds t h = refl
found Kind.Radius t h = refl
found Kind.LineCircle t h = refl
found Kind.CircleCircle t h = refl
found Kind.LineArcAt t h = refl
found Kind.ArcArcAt t h = refl
found Kind.Midpoint t h = refl
found Kind.ArcMidpoint t h = refl
found Kind.Symmetric t h = refl
found Kind.EqualRadius t h = refl

kind-reads : Reads name_of (λ _. Unit {0}) (λ k. k) kind_at parted
kind-reads = named-reads name_of kinds parted found

-- the fields of a kind are those of its row
row-is : (k : Kind) → row_equation k ≡ fields_at k
unfolding fields_at
row-is Kind.Coincident = refl
row-is Kind.Level = refl
row-is Kind.Parallel = refl
row-is Kind.Perpendicular = refl
row-is Kind.Collinear = refl
row-is Kind.Equal = refl
row-is Kind.Held = refl
row-is Kind.Distance = refl
row-is Kind.AxisDistance = refl
row-is Kind.Length = refl
row-is Kind.PointLine = refl
row-is Kind.ArcEnds = refl
row-is Kind.Radius = refl
row-is Kind.LineCircle = refl
row-is Kind.CircleCircle = refl
row-is Kind.LineArcAt = refl
row-is Kind.ArcArcAt = refl
row-is Kind.Midpoint = refl
row-is Kind.ArcMidpoint = refl
row-is Kind.Symmetric = refl
row-is Kind.EqualRadius = refl

abbrev of_kind : (k : Kind) → Contents (fields_of k) → Type 0
of_kind k = ContentsFit (fields_of k)

body-reads : (k : Kind) → Reads (contents_text (fields_of k)) (ContentsFit (fields_of k)) (λ v. equation_of k (means_of (fields_of k) v)) (fields_at k) parted
body-reads k = subst (λ r. Reads (contents_text (fields_of k)) (ContentsFit (fields_of k)) (λ v. equation_of k (means_of (fields_of k) v)) r parted) (row-is k) (mean-reads (equation_of k) (fields-reads (fields_of k)))

pub equation-reads : Reads equation_text EquationFits (λ e. (active_of e).equation) equation_at parted
unfolding equation_at
equation-reads =
    as-reads (then-reads (λ k s. fields_at k.0 s k.1) kind-reads body-reads (λ k. fields-part (fields_of k))) (λ p. record { kind = p.0; contents = p.1 }) (λ e. (e.kind, e.contents))
    (λ b. refl) (λ a. refl) (λ a. refl) (λ b h. (tt, h)) (λ a h. h.1)

-- Measures: one of five names, and the fields of that kind without its value.
gauge-found : (g : Gauge) (t : List ℕ) → parted t ≡ true → named_in gauge_name gauges (gauge_name g ++ t) ≡ Some g
gauge-found Gauge.Distance t h = refl
gauge-found Gauge.AxisDistance t h = refl
gauge-found Gauge.Length t h = refl
gauge-found Gauge.PointLine t h = refl
gauge-found Gauge.Radius t h = refl

gauge-reads : Reads gauge_name (λ _. Unit {0}) (λ g. g) gauge_at parted
gauge-reads = named-reads gauge_name gauges parted gauge-found

gauge-row-is : (g : Gauge) → row_measure g ≡ gauged_at g
unfolding gauged_at
gauge-row-is Gauge.Distance = refl
gauge-row-is Gauge.AxisDistance = refl
gauge-row-is Gauge.Length = refl
gauge-row-is Gauge.PointLine = refl
gauge-row-is Gauge.Radius = refl

gauged-reads : (g : Gauge) → Reads (contents_text (measured_fields g)) (ContentsFit (measured_fields g)) (λ v. measure_of g (means_of (measured_fields g) v)) (gauged_at g) parted
gauged-reads g = subst (λ r. Reads (contents_text (measured_fields g)) (ContentsFit (measured_fields g)) (λ v. measure_of g (means_of (measured_fields g) v)) r parted) (gauge-row-is g) (mean-reads (measure_of g) (fields-reads (measured_fields g)))

pub measure-reads : Reads measure_text MeasureFits (λ m. (measured_of m).measure) measure_at parted
unfolding measure_at
measure-reads =
    as-reads (then-reads (λ g s. gauged_at g.0 s g.1) gauge-reads gauged-reads (λ g. fields-part (measured_fields g))) (λ p. record { gauge = p.0; contents = p.1 }) (λ m. (m.gauge, m.contents))
    (λ b. refl) (λ a. refl) (λ a. refl) (λ b h. (tt, h)) (λ a h. h.1)
