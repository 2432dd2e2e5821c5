pub mod Numbered
pub mod Versioned
pub mod Text
pub mod GivenTrees
pub mod Uses
pub mod Limits
pub mod Depth
pub mod Named
