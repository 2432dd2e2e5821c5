mod LeftOutExamples
mod CollectedLaws
pub mod FoundLaws
pub mod KnownLaws
mod ForgottenExamples
pub mod ForgottenLaws
pub mod KeptLaws
mod JoinedLaws
mod JoinedExamples
pub mod StableLaws
pub mod StepLaws
mod LostLaws
pub mod UnknownLaws
