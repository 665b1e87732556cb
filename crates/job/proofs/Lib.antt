-- From what the calls promise to the definitions.
--     Laying     the loops over the points
--     Refusing   the order of the refusals, and what a build that passes has
--     Freeing    the freedom of a group and of the points in no group
--     Stepping   one group, and the groups one after another
--     Handing    what is handed out
--     Numbered   the number of an answer
--     Answers    the answers
--     Few        there are at most 40 groups
--     Rowed      no group of a build that passes has more than 64 rows
--     Theorem    each number exactly when its row says
--     Sentences  what a user would say of a job
--     Measured   measures and worst are taken from what is handed out
pub mod Laying
pub mod Refusing
pub mod Freeing
pub mod Stepping
pub mod Handing
pub mod Numbered
pub mod Answers
pub mod Few
pub mod Rowed
pub mod Theorem
pub mod Sentences
pub mod Measured
