-- Document 01's example and the corners of the form, as worked cases, which compute.
use Rattle.std.specs.Prelude.{true, List, ◌++◌, ◌≡◌, refl, ℕ, Err, is_ok}
use Rattle.phrases.specs.Equations.{fields_at, equation_at}
use Rattle.phrases.specs.Fields.{number_at, point_at, line_at, value_at, axis_at, vec_at}
use Rattle.phrases.specs.Measures.{gauged_at, measure_at}
use Rattle.sketch.specs.declared.Ending.TheVariants.{BadForm, TooMany}
use Rattle.spelling.specs.Floating.{hex_of, hex_at, digits_at, float_at}
use Rattle.spelling.specs.Letters.{ascii}
use Rattle.spelling.specs.Places.{eat_of, word_of, named_or}
use Rattle.spelling.specs.Wholes.{digit_of, digit_at, more_of, more_digits, whole_at}
use Rattle.text.specs.Items.{items_at}
use Rattle.text.specs.Lines.{state_at, point_line, line_line, equation_line, measure_line}
use Rattle.text.specs.Reader.{count_at, counts_at, rest_at, read_of}

-- the four count lines with so many points, no lines, one equation, one measure
counts : List ℕ → List ℕ
counts n = ascii "points=" ++ n ++ ascii "\nlines=0\nequations=1\nmeasures=1\n"

-- 01's example after its counts, but for the last newline
rest : List ℕ
rest =
    ascii "centre=0000000000000000,0000000000000000\nsize=4000000000000000\n"
    ++ ascii "p=0000000000000000,0000000000000000,kept\np=4000000000000000,0000000000000000,free\n"
    ++ ascii "p=3fe0000000000000,c000000000000000,free\ne=level,0,1,y\nm=distance,0,1"

-- 01's example
the-example : is_ok (read_of (counts (ascii "3") ++ rest ++ ascii "\n")) ≡ true
unfolding counts rest read_of counts_at count_at rest_at items_at digit_of digit_at more_of more_digits whole_at hex_of hex_at digits_at float_at eat_of word_of named_or equation_at fields_at number_at point_at line_at value_at axis_at vec_at state_at point_line line_line equation_line measure_line gauged_at measure_at
the-example = refl

-- without its last newline
no-last-newline : (read_of (counts (ascii "3") ++ rest)) ≡ Err BadForm
unfolding counts rest read_of counts_at count_at rest_at items_at digit_of digit_at more_of more_digits whole_at hex_of hex_at digits_at float_at eat_of word_of named_or equation_at fields_at number_at point_at line_at value_at axis_at vec_at state_at point_line line_line equation_line measure_line gauged_at measure_at
no-last-newline = refl

-- with a newline too many
more-after : (read_of (counts (ascii "3") ++ rest ++ ascii "\n\n")) ≡ Err BadForm
unfolding counts rest read_of counts_at count_at rest_at items_at digit_of digit_at more_of more_digits whole_at hex_of hex_at digits_at float_at eat_of word_of named_or equation_at fields_at number_at point_at line_at value_at axis_at vec_at state_at point_line line_line equation_line measure_line gauged_at measure_at
more-after = refl

-- 03 points
needless-zero : (read_of (counts (ascii "03") ++ rest ++ ascii "\n")) ≡ Err BadForm
unfolding counts rest read_of counts_at count_at rest_at items_at digit_of digit_at more_of more_digits whole_at hex_of hex_at digits_at float_at eat_of word_of named_or equation_at fields_at number_at point_at line_at value_at axis_at vec_at state_at point_line line_line equation_line measure_line gauged_at measure_at
needless-zero = refl

-- 100000 points: the form goes first
six-digits : (read_of (counts (ascii "100000") ++ rest ++ ascii "\n")) ≡ Err BadForm
unfolding counts rest read_of counts_at count_at rest_at items_at digit_of digit_at more_of more_digits whole_at hex_of hex_at digits_at float_at eat_of word_of named_or equation_at fields_at number_at point_at line_at value_at axis_at vec_at state_at point_line line_line equation_line measure_line gauged_at measure_at
six-digits = refl

-- 41 points, whatever follows, also nothing
too-many-points : (read_of (counts (ascii "41"))) ≡ Err TooMany
unfolding counts rest read_of counts_at count_at rest_at items_at digit_of digit_at more_of more_digits whole_at hex_of hex_at digits_at float_at eat_of word_of named_or equation_at fields_at number_at point_at line_at value_at axis_at vec_at state_at point_line line_line equation_line measure_line gauged_at measure_at
too-many-points = refl
