pub mod Examples
pub mod PartLaws
pub mod PlanLaws
