-- Words of private contracts. What is promised doesn't rest on them.
pub mod Forgotten
pub mod Least
pub mod Tells
