pub mod Choices
pub mod Steps
pub mod Irrelevant
pub mod Replacements
pub mod Sound
pub mod Complete
pub mod Pairs
pub mod Told
mod Rows
