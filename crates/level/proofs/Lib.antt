-- Laws, and the theorems.
--     Mapped     what an array's `map` makes
--     Forest     the parents: ranks, roots, halving
--     Joins      the roots after a join
--     Roots      every walk ends at a root, which is its run's
--     Takes      what the sweep over the points does
--     Theorem    every point that is not fixed takes its root's coordinate, over every build that passes the check
--     Copies     levelling only copies: whatever is done to each coordinate apart is done before it or after it alike
pub mod Mapped
pub mod Forest
pub mod Joins
pub mod Roots
pub mod Takes
pub mod Theorem
pub mod Copies
