pub mod Steps
pub mod Sound
pub mod Ranges
mod Rows
