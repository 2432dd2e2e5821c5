-- Words of private contracts. What is promised doesn't rest on them.
pub mod Slots
pub mod Index
pub mod Speaks
