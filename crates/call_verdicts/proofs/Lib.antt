pub mod SwapLaws
mod LevelWords
pub mod LevelsLaws
pub mod AnnotationsLaws
