pub mod Meaning
pub mod Check
pub mod Starts
pub mod Texts
pub mod Inside
pub mod Findings
