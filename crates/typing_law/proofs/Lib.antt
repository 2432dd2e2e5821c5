pub mod Soundness
mod Examples
mod OutputExamples
mod EntailmentExamples
pub mod Counting
pub mod Reached
mod CertificateLaws
pub mod Bounds
pub mod VerdictLaws
mod Parts
mod Placed
mod Places
mod Discipline
mod ProgramExamples
