-- Words of private contracts. What is promised doesn't rest on them.
pub mod Behind
pub mod Levels
pub mod PartViews
