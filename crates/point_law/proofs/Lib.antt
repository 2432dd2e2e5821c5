pub mod PointLaws
pub mod Steps
