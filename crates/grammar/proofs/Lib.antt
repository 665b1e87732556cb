-- That the reader reads the form.
--     FieldForms    each field
--     KindForms     each kind of equation and of measure
--     LineForms     each line of an item
--     ItemForms     so many lines of one sort
--     JobForm       the count lines, and what comes after them
--     Theorem       the reader takes exactly the texts of the form, each with one reading
pub mod FieldForms
pub mod KindForms
pub mod LineForms
pub mod ItemForms
pub mod JobForm
pub mod Theorem
