-- Laws.
--     Filling   the loop that fills a room with items, and what a build holds then
--     Rest      what comes after the counts, put together of its parts
--     Given     1, 2 and 3 exactly when their rows say
pub mod Filling
pub mod Rest
pub mod Given
