-- Laws, and what the readings read.
--     Bits         the patterns of a NaN, and tests of a step
--     Steps        a place of a text, and what a byte and a word do there
--     Forms        readings that take exactly the texts of a form, and how they are put together
--     Digits       the last digit of a number and those in front of it, and how many there are
--     WholeForm    `whole_at` takes exactly the whole numbers
--     FloatForm    `bits_at` takes exactly the floats
pub mod Bits
pub mod Steps
pub mod Forms
pub mod Digits
pub mod WholeForm
pub mod FloatForm
