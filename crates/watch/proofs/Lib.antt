pub mod Memories
mod TrialWordExamples
