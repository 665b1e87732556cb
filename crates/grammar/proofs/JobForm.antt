-- The count lines, and what comes after them, are read exactly as they are written. Assumes nothing.
use Prim.Native.Nat.{ℕ}
use mathlib.Core.List.{List, ◌++◌, map, append_assoc}
use mathlib.Core.Path.{◌≡◌, refl, sym}
use lib.Ieee.{Float}
use lib.ListN.{length-map}
use Rattle.std.proofs.Common.{Ok}
use Rattle.plane.specs.declared.Vec2.{Vec2}
use Rattle.sketch.specs.Blank.{sample}
use Rattle.sketch.specs.declared.Active.{Active}
use Rattle.sketch.specs.declared.Build.{Build}
use Rattle.sketch.specs.declared.Line.{Line}
use Rattle.sketch.specs.declared.Point.{Point}
use Rattle.spelling.proofs.FloatForm.{float-reads}
use Rattle.spelling.proofs.Forms.{Reads, anything, then-reads, mean-reads, as-reads, after-byte, after-word}
use Rattle.spelling.proofs.WholeForm.{whole-reads}
use Rattle.spelling.specs.Floating.{float_at}
use Rattle.spelling.specs.Letters.{ascii}
use Rattle.spelling.specs.Places.{Read, ◌>>=◌, eat_of, word_of}
use Rattle.spelling.specs.Printed.{whole_text}
use Rattle.text.specs.Items.{items_at}
use Rattle.text.specs.Lines.{point_line, line_line, equation_line, measure_line}
use Rattle.text.specs.Reader.{count_at, counts_at, rest_at}
use Rattle.text.specs.declared.Counts as C
use Rattle.grammar.specs.Job.{Whole, Pattern, PlaceFits, PointFits, LineFits, EquationFits, MeasureFits, Counts, CountsFit, Job}
use Rattle.grammar.specs.Meaning.{float_of, vec_of, point_of, line_of, active_of, measured_of, build_of}
use Rattle.grammar.specs.Printed.{counts_text, rest_text}
use Rattle.grammar.proofs.ItemForms.{EachFits, each-reads}
use Rattle.grammar.proofs.LineForms.{place-reads, line-reads, point-reads, line_reads, equation-line-reads, measure-line-reads}

-- The count lines.
count-reads : (key : List ℕ) → Reads (λ n. key ++ (whole_text n ++ ascii "\n")) Whole (λ n. n) (λ s at. count_at s at key) anything
unfolding count_at
count-reads key = line-reads key (λ n. n) whole-reads

-- the counts as the reader gives them
abbrev pub given_counts : Counts → C.Counts
given_counts n = record { points = n.points; lines = n.lines; equations = n.equations; measures = n.measures }

abbrev last_count : ℕ → ℕ → ℕ × ℕ → List ℕ → Read C.Counts
last_count p l e s = count_at s e.1 (ascii "measures=") >>= λ m. Ok (record { points = p; lines = l; equations = e.0; measures = m.0 }, m.1)

abbrev last_counts : ℕ → ℕ × ℕ → List ℕ → Read C.Counts
last_counts p l s = count_at s l.1 (ascii "equations=") >>= λ e. last_count p l.0 e s

abbrev more_counts : ℕ × ℕ → List ℕ → Read C.Counts
more_counts p s = count_at s p.1 (ascii "lines=") >>= λ l. last_counts p.0 l s

pub counts-reads : Reads counts_text CountsFit given_counts counts_at anything
unfolding counts_at
counts-reads =
    as-reads (then-reads more_counts (count-reads (ascii "points=")) (λ p. then-reads (last_counts p) (count-reads (ascii "lines=")) (λ l. then-reads (last_count p l) (count-reads (ascii "equations="))
    (λ e. mean-reads (λ m. record { points = p; lines = l; equations = e; measures = m }) (count-reads (ascii "measures="))) (λ a b t h. refl)) (λ a b t h. refl)) (λ a b t h. refl))
    (λ p. record { points = p.0; lines = p.1.0; equations = p.1.1.0; measures = p.1.1.1 }) (λ n. (n.points, (n.lines, (n.equations, n.measures))))
    (λ b. refl) (λ a. simp append_assoc) (λ a. refl) (λ b h. (h.0, (h.1, (h.2, h.3)))) (λ a h. (h.0, h.1.0, h.1.1.0, h.1.1.1))

-- What comes after the counts.
pub record RestFits (n : Counts) (j : Job) : Type 0 where
  pub centre : PlaceFits j.centre
  pub size : Pattern j.size
  pub points : EachFits PointFits n.points j.points
  pub lines : EachFits LineFits n.lines j.lines
  pub equations : EachFits EquationFits n.equations j.equations
  pub measures : EachFits MeasureFits n.measures j.measures

-- its parts one after another
module _ (n : Counts) where
  abbrev measures_on : Vec2 → Float → List Point → List Line → List Active × ℕ → List ℕ → Read Build
  measures_on v z p l e s = items_at measure_line n.measures s e.1 >>= λ m. Ok (sample v z p l e.0 m.0, m.1)

  abbrev equations_on : Vec2 → Float → List Point → List Line × ℕ → List ℕ → Read Build
  equations_on v z p l s = items_at equation_line n.equations s l.1 >>= λ e. measures_on v z p l.0 e s

  abbrev lines_on : Vec2 → Float → List Point × ℕ → List ℕ → Read Build
  lines_on v z p s = items_at line_line n.lines s p.1 >>= λ l. equations_on v z p.0 l s

  abbrev points_on : Vec2 → Float × ℕ → List ℕ → Read Build
  points_on v z s = eat_of s z.1 10 >>= λ i. items_at point_line n.points s i >>= λ p. lines_on v z.0 p s

  abbrev size_on : Vec2 × ℕ → List ℕ → Read Build
  size_on v s = word_of s v.1 (ascii "\nsize=") >>= λ k. float_at s k >>= λ z. points_on v.0 z s

built : (j : Job) → build_of j ≡ sample (vec_of j.centre) (float_of j.size) (map point_of j.points) (map line_of j.lines) (map active_of j.equations) (map measured_of j.measures)
built j = λ t. record {
  centre = vec_of j.centre;
  size = float_of j.size;
  points = (build_of j).points;
  point_count = sym (length-map j.points point_of) t;
  lines = (build_of j).lines;
  line_count = sym (length-map j.lines line_of) t;
  equations = (build_of j).equations;
  equation_count = sym (length-map j.equations active_of) t;
  measures = (build_of j).measures;
  measure_count = sym (length-map j.measures measured_of) t;
}

pub rest-reads : (n : Counts) → Reads rest_text (RestFits n) build_of (rest_at (given_counts n)) anything
unfolding rest_at
rest-reads n =
    as-reads (after-word (then-reads (size_on n) place-reads
    (λ c. after-word (then-reads (points_on n (vec_of c)) float-reads
    (λ z. after-byte (then-reads (lines_on n (vec_of c) (float_of z)) (each-reads point-reads n.points)
    (λ ps. then-reads (equations_on n (vec_of c) (float_of z) (map point_of ps)) (each-reads line_reads n.lines)
    (λ ls. then-reads (measures_on n (vec_of c) (float_of z) (map point_of ps) (map line_of ls)) (each-reads equation-line-reads n.equations)
    (λ es. mean-reads (λ ms. sample (vec_of c) (float_of z) (map point_of ps) (map line_of ls) (map active_of es) ms) (each-reads measure-line-reads n.measures))
    (λ a b t h. refl)) (λ a b t h. refl)) (λ a b t h. refl)) 10) (λ a b t h. refl)) (ascii "\nsize=")) (λ a b t h. refl)) (ascii "centre="))
    (λ p. record { centre = p.0; size = p.1.0; points = p.1.1.0; lines = p.1.1.1.0; equations = p.1.1.1.1.0; measures = p.1.1.1.1.1 })
    (λ j. (j.centre, (j.size, (j.points, (j.lines, (j.equations, j.measures)))))) (λ b. refl) (λ a. simp append_assoc) (λ a. built _)
    (λ b h. (h.centre, (h.size, (h.points, (h.lines, (h.equations, h.measures))))))
    (λ a h. record { centre = h.0; size = h.1.0; points = h.1.1.0; lines = h.1.1.1.0; equations = h.1.1.1.1.0; measures = h.1.1.1.1.1 })
