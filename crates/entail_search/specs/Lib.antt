pub mod Within
pub mod Facts
pub mod Readings
pub mod View
pub mod Chains
pub mod Closing
pub mod Deeper
pub mod Sound
