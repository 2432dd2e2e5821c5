pub mod RunReports
pub mod CodeReports
pub mod TrialReports
