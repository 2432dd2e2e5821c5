pub mod Exact
pub mod Fields
pub mod Names
pub mod Lines
pub mod Whole
pub mod Loops
pub mod Texts
pub mod Writing
pub mod KnownNames
pub mod Answered
pub mod FaultLaws
mod Examples
