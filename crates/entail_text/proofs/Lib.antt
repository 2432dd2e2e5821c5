pub mod Examples
pub mod FailingNodes
pub mod FoundLaws
pub mod HelpLaws
pub mod Pieces
pub mod TwoMore
