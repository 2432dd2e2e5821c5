pub mod Blocks
pub mod Entailments
pub mod ThreadObligations
pub mod Counts
pub mod ThreadEntailments
pub mod Accepted
pub mod Verdicts
pub mod Disciplined
