pub mod Swap
pub mod Levels
pub mod Annotations
pub mod Inside
