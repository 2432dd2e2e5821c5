pub mod Claims
pub mod Told
pub mod Views
