mod TryLaws
mod AskedLaws
mod SearchedLaws
mod Threads
mod ReadTypes
mod Parts
mod Ranges
mod Walks
mod Splits
mod Reaching
mod Others
mod Concluding
mod Assigning
mod GuardLaws
mod StateLaws
pub mod StatementLaws
pub mod KeptLaws
pub mod LargeTypes
mod ListedLaws
mod SeenLaws
pub mod UnprovedLaws
