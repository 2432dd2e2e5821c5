pub mod Commands
pub mod Outcome
pub mod Headline
pub mod AcceptedRuns
pub mod SwappedPrograms
pub mod LevelledPrograms
pub mod AnnotatedPrograms
pub mod Laws
