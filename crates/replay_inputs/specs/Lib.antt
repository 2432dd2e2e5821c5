pub mod Inputs
pub mod InputViews
pub mod Expressions
pub mod Steps
pub mod Inside
