-- Words of private contracts. What is promised doesn't rest on them.
pub mod ListingReading
pub mod Cuts
pub mod Lookup
pub mod Drafts
pub mod SpelledLines
