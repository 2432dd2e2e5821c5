-- Words of private contracts. What is promised doesn't rest on them.
pub mod Passing
pub mod Seen
pub mod Walking
