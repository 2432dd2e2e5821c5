-- Words of private contracts. What is promised doesn't rest on them.
pub mod Told
pub mod StatementWalks
pub mod Following
