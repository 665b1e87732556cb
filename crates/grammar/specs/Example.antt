-- Document 01's example, a placed point and a line: what is written and its text, which compute. The lines of the kinds are in Lines.antt.
use Rattle.std.specs.Prelude.{[], ◌∷◌, ◌++◌, ◌≡◌, refl}
use Rattle.sketch.specs.declared.Gauge.{Gauge}
use Rattle.sketch.specs.declared.Kind.{Kind}
use Rattle.spelling.specs.Letters.{ascii}
use Rattle.spelling.specs.Printed.{decimal, whole_text, hexadecimal, hex_digit}
use Rattle.grammar.specs.Job.{axis_y, free, kept, placed, Job}
use Rattle.grammar.specs.Printed.{point_line_text, line_line_text, job_text}

example : Job
example = record {
  centre = record { x = 0; y = 0 };
  size = 0x4000_0000_0000_0000;
  points =
      record { start = record { x = 0; y = 0 }; standing = kept }
      ∷ record { start = record { x = 0x4000_0000_0000_0000; y = 0 }; standing = free }
      ∷ record { start = record { x = 0x3fe0_0000_0000_0000; y = 0xc000_0000_0000_0000 }; standing = free }
      ∷ [];
  lines = [];
  equations = record { kind = Kind.Level; contents = (0, (1, (axis_y, tt))) } ∷ [];
  measures = record { gauge = Gauge.Distance; contents = (0, (1, tt)) } ∷ [];
}

its-text : job_text example
    ≡ ascii "points=3\nlines=0\nequations=1\nmeasures=1\n"
    ++ ascii "centre=0000000000000000,0000000000000000\nsize=4000000000000000\n"
    ++ ascii "p=0000000000000000,0000000000000000,kept\np=4000000000000000,0000000000000000,free\n"
    ++ ascii "p=3fe0000000000000,c000000000000000,free\ne=level,0,1,y\nm=distance,0,1\n"
unfolding example decimal hexadecimal hex_digit
its-text = refl

no-needless-zero : whole_text 0 ++ whole_text 7 ++ whole_text 10 ++ whole_text 99999 ≡ ascii "071099999"
unfolding decimal
no-needless-zero = refl

a-placed-point : point_line_text (record { start = record { x = 0; y = 1 }; standing = placed (record { x = 0xfff0_0000_0000_0000; y = 2 }) })
    ≡ ascii "p=0000000000000000,0000000000000001,at,fff0000000000000,0000000000000002\n"
unfolding hexadecimal hex_digit
a-placed-point = refl

a-line : line_line_text (record { from = 0; to = 12 }) ≡ ascii "l=0,12\n"
unfolding decimal
a-line = refl
