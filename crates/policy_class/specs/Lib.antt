pub mod Policy
pub mod Resolved
pub mod Inside
