pub mod Listing
pub mod ListingAnswers
pub mod Inside
