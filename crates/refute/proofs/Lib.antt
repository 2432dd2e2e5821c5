mod Examples
pub mod FirstLaws
pub mod TrialLaws
