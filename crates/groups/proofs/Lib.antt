-- Laws, and the theorem.
--     Forest     the parents: roots, halving, joins
--     Links      being joined by a chain is an equivalence
--     Roots      two touched points have one root exactly when a chain joins them
--     Ties       which points are tied
--     Numbers    how many points lead a group below a point
--     Listings   the number that each point and each equation gets
--     Places     the places that hold a number
--     Exactly    the groups are exactly the chains, of any equations
--     Theorem    and of every build that passes the checks before the fit
--     Laws       the turns of the code's loops
--     Counted    as many items as a count says
--     Named      the points that a call on an equation hands out
--     Alone      an array of its places' numbers
pub mod Forest
pub mod Links
pub mod Roots
pub mod Ties
pub mod Numbers
pub mod Listings
pub mod Places
pub mod Exactly
pub mod Theorem
pub mod Laws
pub mod Counted
pub mod Named
pub mod Alone
