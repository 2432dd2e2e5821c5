pub mod FaultLaws
pub mod StepLaws
mod Examples
