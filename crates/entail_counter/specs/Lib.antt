pub mod Counterexamples
pub mod Known
pub mod Free
pub mod Lines
pub mod Candidates
pub mod Searching
