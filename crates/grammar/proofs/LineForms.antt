-- Each line of an item is read exactly as it is written. Assumes nothing.
use Prim.Native.Nat.{ℕ}
use mathlib.Core.Bool.{true}
use mathlib.Core.List.{List, ◌++◌, append_assoc}
use mathlib.Core.Logic.{◌⊎◌, inl, inr}
use mathlib.Core.Path.{◌≡◌, refl}
use Rattle.std.proofs.Common.{Ok}
use Rattle.phrases.specs.Fields.{number_at, value_at, vec_at}
use Rattle.sketch.specs.Made.{point_no}
use Rattle.sketch.specs.declared.State.{State}
use Rattle.spelling.proofs.FloatForm.{float-reads}
use Rattle.spelling.proofs.Forms.{Reads, parted, anything, done-reads, then-reads, mean-reads, after-byte, after-word, as-reads, or-reads}
use Rattle.spelling.proofs.WholeForm.{whole-reads}
use Rattle.spelling.specs.Letters.{ascii}
use Rattle.spelling.specs.Places.{Read, ◌>>=◌, eat_of, word_of}
use Rattle.text.specs.Lines.{state_at, point_line, line_line, equation_line, measure_line}
use Rattle.grammar.specs.Job.{Place, Standing, free, kept, placed, PlaceFits, StandingFits, PointFits, LineFits, EquationFits, MeasureFits}
use Rattle.grammar.specs.Meaning.{float_of, vec_of, state_of, point_of, line_of, active_of, measured_of}
use Rattle.grammar.specs.Printed.{place_text, standing_text, point_line_text, line_line_text, equation_line_text, measure_line_text}
use Rattle.grammar.proofs.FieldForms.{number-reads, value-reads}
use Rattle.grammar.proofs.KindForms.{equation-reads, measure-reads}

pub place-reads : Reads place_text PlaceFits vec_of vec_at anything
unfolding vec_at
place-reads =
    as-reads (then-reads (λ x s. value_at s x.1 >>= λ y. Ok (record { x = x.0; y = y.0 }, y.1)) float-reads (λ a. mean-reads (λ y. record { x = float_of a; y = y }) value-reads) (λ a b t h. refl))
    (λ p. record { x = p.0; y = p.1 }) (λ p. (p.x, p.y)) (λ b. refl) (λ a. simp append_assoc) (λ a. refl) (λ b h. h) (λ a h. h)

-- A standing: one of three words, and after the last a place.
abbrev either_standing : Unit {0} ⊎ (Unit {0} ⊎ Place) → Standing
either_standing (inl a) = free
either_standing (inr (inl b)) = kept
either_standing (inr (inr p)) = placed p

abbrev which_standing : Standing → Unit {0} ⊎ (Unit {0} ⊎ Place)
which_standing free = inl tt
which_standing kept = inr (inl tt)
which_standing (placed p) = inr (inr p)

standing-reads : Reads (λ k. ascii "," ++ standing_text k) StandingFits state_of state_at anything
unfolding state_at
standing-reads =
    as-reads (or-reads (ascii ",free") (done-reads State.Free anything) (or-reads (ascii ",kept") (done-reads State.Kept anything) (after-word (mean-reads State.Placed place-reads) (ascii ",at,")) (λ b t. refl)) (elim [ inl b ↦ λ t. refl | inr p ↦ λ t. refl ]))
    either_standing which_standing
    (elim [ free ↦ refl | kept ↦ refl | placed p ↦ refl ]) (elim [ inl a ↦ refl | inr (inl b) ↦ refl | inr (inr p) ↦ refl ]) (elim [ inl a ↦ refl | inr (inl b) ↦ refl | inr (inr p) ↦ refl ])
    (elim [ free ↦ λ h. tt | kept ↦ λ h. tt | placed p ↦ λ h. h ]) (elim [ inl a ↦ λ h. tt | inr (inl b) ↦ λ h. tt | inr (inr p) ↦ λ h. h ])

-- a newline ends a number or a name
pub newline : (t : List ℕ) → parted (ascii "\n" ++ t) ≡ true
newline t = refl

-- A line that holds one thing: a key, the thing, and a newline.
pub line-reads : {A M N : Type 0} {text : A → List ℕ} {fit : A → Type 0} {mean : A → M} {read : List ℕ → ℕ → Read M} (key : List ℕ) (f : M → N)
    → Reads text fit mean read parted
    → Reads (λ a. key ++ (text a ++ ascii "\n")) fit (λ a. f (mean a)) (λ s at. word_of s at key >>= λ k. read s k >>= λ r. eat_of s r.1 10 >>= λ end. Ok (f r.0, end)) anything
line-reads {mean = mean} {read = read} key f r =
    as-reads (after-word (then-reads (λ r s. eat_of s r.1 10 >>= λ end. Ok (f r.0, end)) r (λ a. after-byte (done-reads (f (mean a)) anything) 10) (λ a b t h. refl)) key)
    (λ p. p.0) (λ a. (a, tt)) (λ b. refl) (λ a. refl) (λ a. refl) (λ b h. (h, tt)) (λ a h. h.0)

pub point-reads : Reads point_line_text PointFits point_of point_line anything
unfolding point_line
point-reads =
    as-reads (after-word (then-reads (λ v s. state_at s v.1 >>= λ t. eat_of s t.1 10 >>= λ end. Ok (record { start = v.0; state = t.0 }, end)) place-reads
    (λ p. then-reads (λ t s. eat_of s t.1 10 >>= λ end. Ok (record { start = vec_of p; state = t.0 }, end)) standing-reads (λ k. after-byte (done-reads (record { start = vec_of p; state = state_of k }) anything) 10) (λ a b t h. refl))
    (λ a b t h. refl)) (ascii "p="))
    (λ p. record { start = p.0; standing = p.1.0 }) (λ p. (p.start, (p.standing, tt))) (λ b. refl) (λ a. simp append_assoc) (λ a. refl) (λ b h. (h.0, (h.1, tt))) (λ a h. (h.0, h.1.0))

pub line_reads : Reads line_line_text LineFits line_of line_line anything
unfolding line_line
line_reads =
    as-reads (after-word (then-reads (λ m s. number_at s m.1 >>= λ n. eat_of s n.1 10 >>= λ end. Ok (record { from = point_no m.0; to = point_no n.0 }, end)) whole-reads
    (λ m. then-reads (λ n s. eat_of s n.1 10 >>= λ end. Ok (record { from = point_no m; to = point_no n.0 }, end)) number-reads (λ n. after-byte (done-reads (record { from = point_no m; to = point_no n }) anything) 10) (λ a b t h. refl))
    (λ a b t h. refl)) (ascii "l="))
    (λ p. record { from = p.0; to = p.1.0 }) (λ p. (p.from, (p.to, tt))) (λ b. refl) (λ a. simp append_assoc) (λ a. refl) (λ b h. (h.0, (h.1, tt))) (λ a h. (h.0, h.1.0))

pub equation-line-reads : Reads equation_line_text EquationFits active_of equation_line anything
unfolding equation_line
equation-line-reads = line-reads (ascii "e=") (λ e. record { equation = e }) equation-reads

pub measure-line-reads : Reads measure_line_text MeasureFits measured_of measure_line anything
unfolding measure_line
measure-line-reads = line-reads (ascii "m=") (λ m. record { measure = m }) measure-reads
