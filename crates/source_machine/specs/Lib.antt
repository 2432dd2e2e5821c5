pub mod Frames
pub mod SourceMachine
pub mod Inside
