-- Each field is read exactly as it is written, with the comma in front of it. Assumes nothing.
use Prim.Native.Nat.{ℕ}
use mathlib.Core.Bool.{true, false}
use mathlib.Core.List.{List, [], ◌∷◌, ◌++◌}
use mathlib.Core.Logic.{◌⊎◌, inl, inr}
use mathlib.Core.Path.{◌≡◌, refl}
use lib.Ieee.{neg}
use Rattle.floats.specs.Ops.{one}
use Rattle.phrases.specs.Fields.{number_at, point_at, line_at, value_at, axis_at, side_at, rad_at, contact_at, field_at, row_at}
use Rattle.sketch.specs.Kinds.{Sort}
use Rattle.sketch.specs.Made.{point_no, line_no}
use Rattle.sketch.specs.declared.Contact.{Contact}
use Rattle.sketch.specs.declared.Rad.{Rad}
use Rattle.spelling.proofs.FloatForm.{float-reads}
use Rattle.spelling.proofs.Forms.{Reads, parted, anything, before_more, done-reads, then-reads, mean-reads, after-byte, after-word, as-reads, or-reads}
use Rattle.spelling.proofs.Steps.{starts}
use Rattle.spelling.proofs.WholeForm.{whole-reads}
use Rattle.std.proofs.Common.{Ok}
use Rattle.spelling.specs.Letters.{ascii}
use Rattle.spelling.specs.Places.{◌>>=◌}
use Rattle.spelling.specs.Printed.{whole_text, float_text}
use Rattle.grammar.specs.Job.{Whole, Pattern, Axis, axis_x, axis_y, Sign, plus, minus, Radius, by_point, plain, Touch, outside, inside, RadiusFits, ContentFits, Contents, ContentsFit}
use Rattle.grammar.specs.Meaning.{float_of, axis_of, sign_of, rad_of, contact_of, meant_of, means_of}
use Rattle.grammar.specs.Printed.{axis_text, sign_text, radius_text, touch_text, content_text, contents_text}

always : (t : List ℕ) → parted t ≡ true → anything t ≡ true
always t h = refl

pub number-reads : Reads (λ n. ascii "," ++ whole_text n) Whole (λ n. n) number_at parted
unfolding number_at
number-reads = after-byte whole-reads 44

point-reads : Reads (λ n. ascii "," ++ whole_text n) Whole point_no point_at parted
unfolding point_at
point-reads = mean-reads point_no number-reads

line-reads : Reads (λ n. ascii "," ++ whole_text n) Whole line_no line_at parted
unfolding line_at
line-reads = mean-reads line_no number-reads

pub value-reads : Reads (λ b. ascii "," ++ float_text b) Pattern float_of value_at anything
unfolding value_at
value-reads = after-byte float-reads 44

-- Axes, signs and contacts: one of a few words.
abbrev either_axis : Unit {0} ⊎ Unit {0} → Axis
either_axis (inl a) = axis_x
either_axis (inr b) = axis_y

abbrev which_axis : Axis → Unit {0} ⊎ Unit {0}
which_axis axis_x = inl tt
which_axis axis_y = inr tt

axis-reads : Reads (λ a. ascii "," ++ axis_text a) (λ a. Unit {0}) axis_of axis_at parted
unfolding axis_at
axis-reads =
    as-reads (or-reads (ascii ",x") (done-reads 0 parted) (after-word (done-reads 1 parted) (ascii ",y")) (λ b t. refl)) either_axis which_axis
    (elim [ axis_x ↦ refl | axis_y ↦ refl ]) (elim [ inl a ↦ refl | inr b ↦ refl ]) (elim [ inl a ↦ refl | inr b ↦ refl ])
    (elim [ axis_x ↦ λ h. tt | axis_y ↦ λ h. tt ]) (λ a h. tt)

abbrev either_sign : Unit {0} ⊎ Unit {0} → Sign
either_sign (inl a) = plus
either_sign (inr b) = minus

abbrev which_sign : Sign → Unit {0} ⊎ Unit {0}
which_sign plus = inl tt
which_sign minus = inr tt

side-reads : Reads (λ k. ascii "," ++ sign_text k) (λ k. Unit {0}) sign_of side_at parted
unfolding side_at
side-reads =
    as-reads (or-reads (ascii ",+") (done-reads one parted) (after-word (done-reads (neg one) parted) (ascii ",-")) (λ b t. refl)) either_sign which_sign
    (elim [ plus ↦ refl | minus ↦ refl ]) (elim [ inl a ↦ refl | inr b ↦ refl ]) (elim [ inl a ↦ refl | inr b ↦ refl ])
    (elim [ plus ↦ λ h. tt | minus ↦ λ h. tt ]) (λ a h. tt)

abbrev either_touch : Unit {0} ⊎ Sign → Touch
either_touch (inl a) = outside
either_touch (inr k) = inside k

abbrev which_touch : Touch → Unit {0} ⊎ Sign
which_touch outside = inl tt
which_touch (inside k) = inr k

contact-reads : Reads (λ o. ascii "," ++ touch_text o) (λ o. Unit {0}) contact_of contact_at parted
unfolding contact_at
contact-reads =
    as-reads (or-reads (ascii ",o") (done-reads Contact.Outside parted) (mean-reads Contact.Inside side-reads) apart) either_touch which_touch
    (elim [ outside ↦ refl | inside k ↦ refl ]) (elim [ inl a ↦ refl | inr k ↦ refl ]) (elim [ inl a ↦ refl | inr k ↦ refl ])
    (elim [ outside ↦ λ h. tt | inside k ↦ λ h. tt ]) (λ a h. tt)
  where
    apart : (k : Sign) (t : List ℕ) → starts (ascii ",o") ((ascii "," ++ sign_text k) ++ t) ≡ false
    apart plus t = refl
    apart minus t = refl

-- A radius: a word, and then a point or a float.
abbrev either_radius : ℕ ⊎ ℕ → Radius
either_radius (inl n) = by_point n
either_radius (inr b) = plain b

abbrev which_radius : Radius → ℕ ⊎ ℕ
which_radius (by_point n) = inl n
which_radius (plain b) = inr b

radius-reads : Reads (λ r. ascii "," ++ radius_text r) RadiusFits rad_of rad_at parted
unfolding rad_at
radius-reads =
    as-reads (or-reads (ascii ",p") (mean-reads Rad.Point point-reads) (after-word (mean-reads Rad.Value (before_more parted always value-reads)) (ascii ",v")) (λ b t. refl))
    either_radius which_radius
    (elim [ by_point n ↦ refl | plain b ↦ refl ]) (elim [ inl n ↦ refl | inr b ↦ refl ]) (elim [ inl n ↦ refl | inr b ↦ refl ])
    (elim [ by_point n ↦ λ h. h | plain b ↦ λ h. h ]) (elim [ inl n ↦ λ h. h | inr b ↦ λ h. h ])

-- Every field, by its sort.
field-reads : (f : Sort) → Reads (λ v. ascii "," ++ content_text f v) (ContentFits f) (meant_of f) (field_at f) parted
field-reads Sort.Point = point-reads
field-reads Sort.Line = line-reads
field-reads Sort.Value = before_more parted always value-reads
field-reads Sort.Axis = axis-reads
field-reads Sort.Side = side-reads
field-reads Sort.Radius = radius-reads
field-reads Sort.Contact = contact-reads

-- what comes after a number or a name is parted from it, by a field's comma or by what comes after the fields
pub fields-part : (l : List Sort) (v : Contents l) (t : List ℕ) → parted t ≡ true → parted (contents_text l v ++ t) ≡ true
fields-part [] v t h = h
fields-part (f ∷ l) v t h = refl

-- Fields one after another.
pub fields-reads : (l : List Sort) → Reads (contents_text l) (ContentsFit l) (means_of l) (row_at l) parted
fields-reads [] = done-reads tt parted
fields-reads (f ∷ l) =
    then-reads (λ r s. row_at l s r.1 >>= λ m. Ok ((r.0, m.0), m.1)) (field-reads f) (λ a. mean-reads (λ m. (meant_of f a, m)) (fields-reads l)) (λ a. fields-part l)
