-- What the room's contracts are said by.
--     Points    the points of a build, and what is handed out of them
--     Groups    the groups fitted one after another, and what they come to
--     Promise   the job
--     Given     when each of its numbers is given
--     Sentences what a user would say of it
pub mod Points
pub mod Groups
pub mod Promise
pub mod Given
pub mod Sentences
