pub mod Spelling
pub mod Unplaced
pub mod ReadBack
pub mod Fronts
pub mod Inside
