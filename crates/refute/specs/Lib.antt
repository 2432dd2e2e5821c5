pub mod Inside
pub mod Trials
