pub mod VariableNames
pub mod Inside
pub mod Lines
pub mod Excerpts
