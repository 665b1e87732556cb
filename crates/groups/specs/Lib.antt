-- What the room's contracts and its theorem are said by.
--     Touches    the points that an equation touches, by number
--     Parents    `groups`, its first half: the parents, `root`, the joins
--     Tied       `tied_points`
--     Listed     `groups`, its second half: from the roots to the groups
--     Chains     what groups are, apart from how they are found
--     Examples   document 01's (a) to (d)
pub mod Touches
pub mod Parents
pub mod Tied
pub mod Listed
pub mod Chains
pub mod Examples
