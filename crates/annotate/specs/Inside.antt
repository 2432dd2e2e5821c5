-- Words of private contracts, and of `text_with` and what that takes. What is promised of `annotate` doesn't rest on them.
pub mod Choosing
pub mod Going
pub mod Putting
pub mod Searches
