-- The generic theorem, in the order in which it is proved.
pub mod Basics
pub mod TableLaws
pub mod Honest
pub mod Many
pub mod Senses
pub mod Samples
pub mod Shapely
pub mod Complete
pub mod Turns
pub mod Exact
pub mod Unique
pub mod Wholes
pub mod Exactness
-- For code that reads by it.
pub mod Repeats
pub mod Stops
mod Examples
