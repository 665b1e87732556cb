-- What comes after the counts, put together of its parts. Assumes nothing.
use Prim.Native.Nat.{ℕ, ◌≤◌}
use mathlib.Core.Bool.{false}
use mathlib.Core.List.{List}
use mathlib.Core.Path.{◌≡◌, sym, ap, ◌∙◌}
use borrow.Author.Tests.{eq-eqb, ltb-false}
use lib.Dec.{ltb}
use lib.Ieee.{Float}
use lib.ListN.{length, take, drop, replicate, length-replicate}
use native.Mathlib.Omega.{arith}
use Rattle.loops.proofs.Picks.{none_of_four}
use Rattle.std.proofs.Common.{Result, Ok}
use Rattle.std.proofs.lemmas.List.{length-take-le}
use Rattle.plane.specs.declared.Vec2.{Vec2}
use Rattle.phrases.specs.Fields.{vec_at}
use Rattle.sketch.specs.Blank.{blank_point, blank_active, blank_measured}
use Rattle.sketch.specs.Involved.{no_line}
use Rattle.sketch.specs.declared.Active.{Active}
use Rattle.sketch.specs.declared.Line.{Line}
use Rattle.sketch.specs.declared.Measured.{Measured}
use Rattle.sketch.specs.declared.Point.{Point}
use Rattle.spelling.specs.Floating.{float_at}
use Rattle.spelling.specs.Letters.{ascii}
use Rattle.spelling.specs.Places.{Read, eat_of, word_of}
use Rattle.text.specs.Items.{items_with, items_at}
use Rattle.text.specs.Lines.{point_line, line_line, equation_line, measure_line}
use Rattle.text.specs.Reader.{over, rest_at, ended}
use Rattle.text.specs.declared.Counts.{Counts}
use Rattle.text.proofs.Filling.{filled-is}

-- the counts are within their bounds
pub within : (n : Counts) → over n ≡ false → (n.points ≤ 40) × (n.lines ≤ 40) × (n.equations ≤ 40) × (n.measures ≤ 20)
within n h =
    let f = none_of_four (ltb 40 n.points) (ltb 40 n.lines) (ltb 40 n.equations) (ltb 20 n.measures) h in
    (ltb-false _ _ f.0, ltb-false _ _ f.1, ltb-false _ _ f.2, ltb-false _ _ f.3)

-- places that hold n items, which were read from one place to the next, and then blanks
pub record Filled {A : Type 0} (line : List ℕ → ℕ → Read A) (blank : A) (m n : ℕ) (s : List ℕ) (from to : ℕ) (l : List A) : Type 0 where
  pub read : items_at line n s from ≡ Ok (take n l, to)
  pub kept : drop n l ≡ drop n (replicate m blank)
  pub many : n ≤ length l

pub filled-by : {A : Type 0} (line : List ℕ → ℕ → Read A) (blank : A) (m n : ℕ) (s : List ℕ) (from to : ℕ) (l old : List A) (o : Result ℕ ℕ)
    → n ≤ m → old ≡ replicate m blank → items_with (take n l) o ≡ items_at line n s from → drop n l ≡ drop n old → length l ≡ length old → o ≡ Ok to
    → Filled line blank m n s from to l
filled-by line blank m n s from to l old o h e r k w q =
    let v : length old ≡ m = ap length e ∙ length-replicate m blank in
    record { read = sym r ∙ ap (items_with (take n l)) q; kept = k ∙ ap (drop n) e; many = omega arith }

module _ (s : List ℕ) (at : ℕ) (n : Counts) (v : Vec2) (z : Float) (ps : List Point) (ls : List Line) (es : List Active) (ms : List Measured) where
  pub rest-is : (c d k e i p l q m : ℕ) → word_of s at (ascii "centre=") ≡ Ok c → vec_at s c ≡ Ok (v, d) → word_of s d (ascii "\nsize=") ≡ Ok k
      → float_at s k ≡ Ok (z, e) → eat_of s e 10 ≡ Ok i
      → Filled point_line blank_point 40 n.points s i p ps → Filled line_line no_line 40 n.lines s p l ls
      → Filled equation_line blank_active 40 n.equations s l q es → Filled measure_line blank_measured 20 n.measures s q m ms → m ≡ length s
      → Ok (record { centre = v; size = z; points = ps; point_count = n.points; lines = ls; line_count = n.lines; equations = es; equation_count = n.equations; measures = ms; measure_count = n.measures })
      ≡ ended s (rest_at n s at)
  unfolding rest_at
  rest-is c d k e i p l q m a₁ a₂ a₃ a₄ a₅ fp fl fe fm last =
      rw (a₁, a₂, a₃, a₄, a₅, fp.read, fl.read, fe.read, fm.read, eq-eqb m (length s) last) (ap Ok (λ t. record {
        centre = v;
        size = z;
        points = filled-is 40 n.points blank_point ps fp.many fp.kept t;
        point_count = sym (length-take-le n.points ps fp.many) t;
        lines = filled-is 40 n.lines no_line ls fl.many fl.kept t;
        line_count = sym (length-take-le n.lines ls fl.many) t;
        equations = filled-is 40 n.equations blank_active es fe.many fe.kept t;
        equation_count = sym (length-take-le n.equations es fe.many) t;
        measures = filled-is 20 n.measures blank_measured ms fm.many fm.kept t;
        measure_count = sym (length-take-le n.measures ms fm.many) t;
      }))
