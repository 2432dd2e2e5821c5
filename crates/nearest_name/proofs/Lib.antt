mod Examples
pub mod RowLaws
pub mod Nearness
pub mod Scripts
