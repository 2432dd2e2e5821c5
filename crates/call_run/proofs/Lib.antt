mod Examples
pub mod RunLaws
pub mod PairLaws
pub mod RefuteLaws
