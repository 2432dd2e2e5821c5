pub mod Tests
pub mod Spellings
pub mod WordBytes
pub mod Trees
pub mod Values
pub mod View
pub mod Lists
