pub mod Inside
pub mod Keeping
pub mod Beside
pub mod Listed
pub mod Searched
pub mod Unproved
