pub mod Reads
pub mod ReadTokens
pub mod Inside
