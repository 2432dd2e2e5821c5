-- Words of private contracts, which no promise cites.
pub mod SearchedOthers
