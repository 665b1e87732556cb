-- What the room's contracts are said by.
--     Gauges     `measures`
--     Inside     what a private function promises
--     Examples   two distances along an axis
pub mod Gauges
pub mod Inside
pub mod Examples
