pub mod OfTheRules
pub mod PointLaws
pub mod Ranges
mod Reached
